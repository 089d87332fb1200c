use Rattle.std.proofs.Common.{rules, ◌≡◌, ◌∙◌, is_some, Some, refl, sym, ap, subst}
use Rattle.tape.specs.declared.answer.Answer.{Answer}
use Rattle.tape.specs.declared.answer.Answer.TheVariants as answer
use Rattle.server.specs.declared.served.Served.{Served}
use Rattle.server.specs.Attended.{IsFirstOf}
use Rattle.server.specs.Opening.{OpensAt, wish_of}
use Rattle.server.specs.Serving.{ServedSo, is_resume, may_resume}
use Rattle.server.proofs.Joined.{idle_routed, nothing_so, refused_as}
use Rattle.server.proofs.Opened.{begins_at, opened_as, opened_at}
use Rattle.server.proofs.Places.{of_back}
use Rattle.server.proofs.serving.serve_first.Goals as goal

pub returns-in_default-clause-serves : goal.returns-in_default-clause-serves
returns-in_default-clause-serves g c = nothing_so c.args.host.now.settings.now (g.K.Clock.moments c.args.host.now.clock.now) (is_some c.args.jobs.now) c.args.host.now.grant c.args.host.now.slot c.args.host.now.routes.now c.args.callers.now c.args.callers.now c.args.jobs.now (g.L.Link.shown c.args.link.now) refl

pub pass-requires : goal.pass-requires
pass-requires g c = c.requires.first.whole

pub returns-in_default-open-clause-serves : goal.returns-in_default-open-clause-serves
returns-in_default-open-clause-serves g c = nothing_so c.args.host.now.settings.now (g.K.Clock.moments c.args.host.now.clock.now) (is_some c.args.jobs.now) c.args.host.now.grant c.args.host.now.slot c.args.host.now.routes.now c.args.callers.now c.open.new.callers c.args.jobs.now (g.L.Link.shown c.args.link.now) c.in_default-open.ensures.nothing

pub serve_at-turned-requires-clause-of : goal.serve_at-turned-requires-clause-of
serve_at-turned-requires-clause-of g c = of_back c.args.host.now.settings.now c.args.host.now.connections.now c.args.callers.now c.open.new.callers c.requires.of c.open.ensures.back

pub serve_at-turned-requires-clause-routed : goal.serve_at-turned-requires-clause-routed
serve_at-turned-requires-clause-routed g c = idle_routed c.args.host.now.routes.now c.args.jobs.now c.requires.idle

pub serve_at-turned-requires-clause-opened : goal.serve_at-turned-requires-clause-opened
serve_at-turned-requires-clause-opened g c =
    let st = c.args.host.now.settings.now in
    let moments = g.K.Clock.moments c.args.host.now.clock.now in
    let at = c.in-Ok-open.opening.slot in
    let conn = c.in-Opened.conn in
    let is : c.in-Ok-open.opening.answer ≡ answer.Opened conn = search rules in
    let opens : OpensAt st moments c.args.host.now.slot at c.args.callers.now c.open.new.callers c.args.frame (answer.Opened conn) = subst (λ (a : Answer). OpensAt st moments c.args.host.now.slot at c.args.callers.now c.open.new.callers c.args.frame a) is c.in-Ok-open.ensures.opens in
    opened_at st moments c.args.host.now.slot at conn c.args.callers.now c.open.new.callers c.args.frame (g.L.Link.shown c.args.link.now) c.pass.new.self.bytes c.open.ensures.back opens
    (begins_at st.max_in c.args.reader.max_in c.args.frame (g.L.Link.shown c.args.link.now) c.args.reader.bytes c.pass.new.self.bytes c.requires.limit c.requires.first c.pass.ensures.passed)

pub returns-in-Opened-clause-serves : goal.returns-in-Opened-clause-serves
returns-in-Opened-clause-serves g c =
    let st = c.args.host.now.settings.now in
    let moments = g.K.Clock.moments c.args.host.now.clock.now in
    let helps = is_some c.args.jobs.now in
    let at = c.in-Ok-open.opening.slot in
    let conn = c.in-Opened.conn in
    let olds = c.args.callers.now in
    let mids = c.open.new.callers in
    let news = c.serve_at-turned.new.callers in
    let s = g.L.Link.shown c.args.link.now in
    let t = g.L.Link.shown c.serve_at-turned.new.link in
    let resumes = c.may_resume-resumes.result in
    let wish : c.in-Ok.wish ≡ wish_of c.args.frame = c.in-Ok.ensures in
    let asks : resumes ≡ may_resume (wish_of c.args.frame) = c.may_resume-resumes.ensures ∙ ap may_resume wish in
    let is : c.in-Ok-open.opening.answer ≡ answer.Opened conn = search rules in
    let opens : OpensAt st moments c.args.host.now.slot at olds mids c.args.frame (answer.Opened conn) = subst (λ (a : Answer). OpensAt st moments c.args.host.now.slot at olds mids c.args.frame a) is c.in-Ok-open.ensures.opens in
    let begins = begins_at st.max_in c.args.reader.max_in c.args.frame s c.args.reader.bytes c.pass.new.self.bytes c.requires.limit c.requires.first c.pass.ensures.passed in
    subst (λ (v : Served). ServedSo st moments helps c.args.host.now.grant c.args.host.now.slot c.args.host.now.routes.now olds news c.args.jobs.now c.serve_at-turned.new.jobs t (v, Some (at, conn))) (sym c.served_by.ensures)
    (opened_as st moments helps c.args.host.now.grant c.args.host.now.slot at conn c.args.host.now.routes.now olds mids news c.args.jobs.now c.serve_at-turned.new.jobs s t c.args.frame c.pass.new.self.bytes c.serve_at-turned.ensures.taken.0 c.serve_at-turned.result resumes
    c.requires.server c.open.ensures.back c.serve_at-turned.ensures.back opens begins c.serve_at-turned.ensures.taken.1 c.serve_at-turned.ensures.serves asks)

pub returns-in_default-answer-clause-serves : goal.returns-in_default-answer-clause-serves
returns-in_default-answer-clause-serves g c =
    let st = c.args.host.now.settings.now in
    let moments = g.K.Clock.moments c.args.host.now.clock.now in
    let at = c.in-Ok-open.opening.slot in
    let olds = c.args.callers.now in
    let news = c.open.new.callers in
    let met = c.in-Ok-open.opening.answer in
    let wish : c.in-Ok.wish ≡ wish_of c.args.frame = c.in-Ok.ensures in
    let asks : c.is_resume-resuming.result ≡ is_resume (wish_of c.args.frame) = c.is_resume-resuming.ensures ∙ ap is_resume wish in
    let begins : IsFirstOf c.args.frame c.args.reader.bytes st.max_in (g.L.Link.shown c.args.link.now) = subst (λ n. IsFirstOf c.args.frame c.args.reader.bytes n (g.L.Link.shown c.args.link.now)) c.requires.limit c.requires.first in
    refused_as st moments (is_some c.args.jobs.now) c.args.host.now.grant c.args.host.now.slot at c.args.host.now.routes.now olds news c.args.jobs.now (g.L.Link.shown c.args.link.now) (g.L.Link.shown c.refused.new.link) c.args.frame c.args.reader.bytes met c.refused.result c.is_resume-resuming.result
    asks c.open.ensures.back begins c.in-Ok-open.ensures.opens (λ n opened. c.in_default-answer.not-Opened n opened) c.refused.ensures.taken c.refused.ensures.says c.refused.ensures.gives c.refused.ensures.nothing

pub returns-in_default-clause-routed : goal.returns-in_default-clause-routed
returns-in_default-clause-routed g c = idle_routed c.args.host.now.routes.now c.args.jobs.now c.requires.idle

pub returns-in_default-open-clause-routed : goal.returns-in_default-open-clause-routed
returns-in_default-open-clause-routed g c = idle_routed c.args.host.now.routes.now c.args.jobs.now c.requires.idle

pub returns-in_default-answer-clause-routed : goal.returns-in_default-answer-clause-routed
returns-in_default-answer-clause-routed g c = idle_routed c.args.host.now.routes.now c.args.jobs.now c.requires.idle
