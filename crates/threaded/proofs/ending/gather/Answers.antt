use Rattle.std.proofs.Common.{Bool, false, List, subst, sym}
use Rattle.rtrb.specs.Ring.{received, sent}
use Rattle.rs_wire.specs.declared.settings.Settings.{Settings}
use Rattle.tape.specs.declared.entry.Entry.{Entry}
use Rattle.session_model.specs.Legal.{Fair, Legal}
use Rattle.session_laws.specs.Ends.{AreEnds}
use Rattle.pump.specs.Turns.{GoesOn}
use Rattle.threaded_client.specs.Carrying.{IsAny, IsSound as IsSoundNear}
use Rattle.threaded_server.specs.Carrying.{IsSound}
use Rattle.threaded_drain.specs.Ending.{FarEnds, NearEnds}
use Rattle.threaded_drain.specs.Resting.{IsAtRest}
use Rattle.threaded_model.specs.Threaded.{Threaded}
use Rattle.threaded.specs.Threads.{FarHands, NearHands}
use Rattle.threaded.proofs.Ended.{IsAll, IsJoined, all_crossed, joined_by, on_ok}
use Rattle.threaded.proofs.ending.gather.Goals as goal

pub returns-clause-played : goal.returns-clause-played
returns-clause-played g c = λ lines side checked others near_hands far_hands went.
    let stopped = c.has_stopped-want.ensures went in
    let ok = stopped.2 in
    let client = c.args.client in
    let server = c.args.server in
    let s = c.settle-settled in
    let near = s.new.near in
    let far = s.new.far in
    let shut = c.shut-client in
    let nh : NearHands lines client c.args.client_asked.caller false c.args.near.caller c.args.near.pump (sent c.args.near.out) (received c.args.near.from) =
    subst (λ (b : Bool). NearHands lines client c.args.client_asked.caller b c.args.near.caller c.args.near.pump (sent c.args.near.out) (received c.args.near.from)) stopped.0 near_hands in
    let fh : FarHands lines server c.args.server_asked.caller false c.args.far.caller c.args.far.knows (sent c.args.far.out) (received c.args.far.from) =
    subst (λ (b : Bool). FarHands lines server c.args.server_asked.caller b c.args.far.caller c.args.far.knows (sent c.args.far.out) (received c.args.far.from)) stopped.1 far_hands in
    let nj : IsJoined c.args.near.caller c.args.client_asked.caller c.join.new.caller = joined_by c.args.near.caller c.args.client_asked.caller c.join.new.caller _ _ _ c.join.ensures.both c.join.ensures.own c.join.ensures.apart in
    let fj : IsJoined c.args.far.caller c.args.server_asked.caller c.join-2.new.caller = joined_by c.args.far.caller c.args.server_asked.caller c.join-2.new.caller _ _ _ c.join-2.ensures.both c.join-2.ensures.own c.join-2.ensures.apart in
    let na : IsAll IsAny c.join.new.caller near.caller = record { on = s.ensures.near_same; goes = on_ok s.result tt (GoesOn IsAny c.join.new.caller near.caller.front) ok s.ensures.near_goes; named = shut.ensures.client_named } in
    let fa : IsAll IsAny c.join-2.new.caller far.caller = record { on = s.ensures.far_same; goes = on_ok s.result tt (GoesOn IsAny c.join-2.new.caller far.caller.front) ok s.ensures.far_goes; named = shut.ensures.server_named } in
    let ends : AreEnds client.settings server.settings near.caller.front far.caller.front = record {
      client = side;
      server = c.requires.server;
      client_checked = checked;
      server_checked = others;
      client_legal = subst (λ (h : Settings). Legal h near.caller.front) shut.ensures.client_settings (subst (λ (es : List Entry). Legal shut.result.0.settings es) shut.ensures.client_entries c.legal.ensures.legal);
      server_legal = subst (λ (h : Settings). Legal h far.caller.front) shut.ensures.server_settings (subst (λ (es : List Entry). Legal shut.result.1.settings es) shut.ensures.server_entries c.legal-2.ensures.legal);
      client_fair = subst (λ (h : Settings). Fair h near.caller.front) shut.ensures.client_settings (subst (λ (es : List Entry). Fair shut.result.0.settings es) shut.ensures.client_entries c.legal.ensures.fair);
      server_fair = subst (λ (h : Settings). Fair h far.caller.front) shut.ensures.server_settings (subst (λ (es : List Entry). Fair shut.result.1.settings es) shut.ensures.server_entries c.legal-2.ensures.fair);
    } in
    let played : Threaded client.settings server.settings lines near.caller.front far.caller.front =
    all_crossed IsAny IsAny lines client server c.args.client_asked.caller c.args.near.caller c.join.new.caller near.caller c.args.server_asked.caller c.args.far.caller c.join-2.new.caller far.caller near.conn c.args.near.pump near.pump c.args.far.knows far.knows
    (sent c.args.near.out) (sent near.out) (received c.args.near.from) (received near.from) (sent c.args.far.out) (sent far.out) (received c.args.far.from) (received far.from) ends nh fh nj fj na fa (on_ok s.result tt (NearEnds c.join.new.caller near.caller c.args.near.pump near.pump (sent c.args.near.out) (sent near.out) (received c.args.near.from) (received near.from)) ok s.ensures.near_ends) (on_ok s.result tt (FarEnds c.join-2.new.caller far.caller c.args.far.knows far.knows (sent c.args.far.out) (sent far.out) (received c.args.far.from) (received far.from)) ok s.ensures.far_ends)
    (on_ok s.result tt (IsSoundNear client.settings near.conn near.pump) ok s.ensures.near_sound) (on_ok s.result tt (IsSound server.settings far.knows) ok s.ensures.far_sound) shut.ensures.all_up shut.ensures.all_down (on_ok s.result tt (IsAtRest client.settings server.settings near.caller.front far.caller.front near.pump far.knows) ok s.ensures.at_rest) in
    subst (λ (es : List Entry). Threaded client.settings server.settings lines es shut.result.1.entries) (sym shut.ensures.client_entries)
    (subst (λ (es : List Entry). Threaded client.settings server.settings lines near.caller.front es) (sym shut.ensures.server_entries) played)
