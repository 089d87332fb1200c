use Rattle.std.proofs.Common.{◌≡◌, ◌∙◌, ap, subst, sym}
use Rattle.conn_shared.specs.Members.{first_member}
use Rattle.rsocket_call.specs.Begun.{HasOpened}
use Rattle.rsocket_call.specs.Called.{settings_for}
use Rattle.rsocket_call.specs.Ended.{HasCome}
use Rattle.rsocket_call.proofs.Coming.{came_unbegun}
use Rattle.rsocket_call.proofs.calling.call_on.Goals as goal

pub call_as-requires-clause-opened : goal.call_as-requires-clause-opened
call_as-requires-clause-opened g c =
    let of : c.in-Ok.client.of ≡ c.args.connection = c.in-Ok.ensures.opened.of ∙ ap (λ k. k.of) c.requires.first in
    subst (λ me. HasOpened (g.K.Clock.moments c.args.clock.now) me c.in-Ok.client) (c.requires.first ∙ ap first_member (sym of)) c.in-Ok.ensures.opened

pub call_as-requires-clause-settings : goal.call_as-requires-clause-settings
call_as-requires-clause-settings g c =
    let of : c.in-Ok.client.of ≡ c.args.connection = c.in-Ok.ensures.opened.of ∙ ap (λ k. k.of) c.requires.first in
    ap (λ o. o.settings) of ∙ c.requires.settings

pub call_as-requires-clause-tells : goal.call_as-requires-clause-tells
call_as-requires-clause-tells g c =
    let of : c.in-Ok.client.of ≡ c.args.connection = c.in-Ok.ensures.opened.of ∙ ap (λ k. k.of) c.requires.first in
    ap (λ o. o.tells) of ∙ c.requires.tells

pub returns-in-Ok-clause-come : goal.returns-in-Ok-clause-come
returns-in-Ok-clause-come g c =
    let task = c.args.task.now in
    let shelf = g.H.Shelf.back c.args.shelf.now in
    let shelf' = g.H.Shelf.back c.call_as.new.shelf in
    let moments = g.K.Clock.moments c.args.clock.now in
    let asks = g.N.Net.asked c.args.net.now in
    let asks' = g.N.Net.asked c.call_as.new.net in
    let old = g.O.Sink.shown c.args.output.now in
    let new = g.O.Sink.shown c.call_as.new.output in
    subst (λ b. HasCome c.call_as.result task moments g.H.Shelf.fresh shelf shelf' asks asks' b (g.N.Net.back c.call_as.new.net) (g.N.Net.faults c.args.net.now) (g.N.Net.faults c.call_as.new.net) old new) c.in-Ok.ensures.kept.0
    (subst (λ f. HasCome c.call_as.result task moments g.H.Shelf.fresh shelf shelf' asks asks' (g.N.Net.back c.begin.new.net) (g.N.Net.back c.call_as.new.net) f (g.N.Net.faults c.call_as.new.net) old new) c.in-Ok.ensures.kept.1
    (c.call_as.ensures.come asks c.in-Ok.ensures.asked))

pub returns-in-Err-clause-come : goal.returns-in-Err-clause-come
returns-in-Err-clause-come g c =
    let settings : c.args.caller.of.settings ≡ settings_for c.args.task.now = ap (λ k. k.of.settings) c.requires.first ∙ c.requires.settings in
    came_unbegun c.in-Err.called c.args.task.now (g.K.Clock.moments c.args.clock.now) g.H.Shelf.fresh (g.H.Shelf.back c.args.shelf.now) (g.H.Shelf.back c.put_away.new.shelf) (g.N.Net.asked c.args.net.now) (g.N.Net.asked c.begin.new.net)
    (g.N.Net.back c.args.net.now) (g.N.Net.back c.begin.new.net) (g.N.Net.faults c.args.net.now) (g.N.Net.faults c.begin.new.net) c.args.caller c.in-Err.caller (g.O.Sink.shown c.args.output.now) (ap (λ k. k.front) c.requires.first) settings (ap (λ k. k.of.tells) c.requires.first ∙ c.requires.tells)
    c.in-Err.ensures.caller c.put_away.ensures.own c.in-Err.ensures.cause c.in-Err.ensures.asked c.put_away.ensures.tape
