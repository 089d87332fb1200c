use Rattle.std.proofs.Common.{refl, rules, subst, sym}
use Rattle.conn_shared.specs.Members.{Knowledge}
use Rattle.rtrb.specs.Ring.{received, sent}
use Rattle.pump.specs.Turns.{GoesOn}
use Rattle.pump.proofs.Adding.{goes_both, goes_none, on_both}
use Rattle.threaded_client.specs.Carrying.{IsAny}
use Rattle.threaded_drain.proofs.Going.{far_ends}
use Rattle.threaded_drain.proofs.settling.settle.Goals as goal

pub loop-init : goal.loop-init
loop-init g c = record {
  near_same = refl;
  far_same = refl;
  near_out = (search rules);
  near_from = (search rules);
  far_out = (search rules);
  far_from = (search rules);
  near_sound = c.requires.near_sound;
  far_sound = c.requires.far_sound;
  near_goes = goes_none IsAny c.args.near.now.caller;
  far_goes = goes_none IsAny c.args.far.now.caller;
  near_kept = λ lines k. k;
  far_kept = λ lines k. k;
}

pub loop-preserved : goal.loop-preserved
loop-preserved g c =
    let i = c.loop.invariant in
    let near = c.args.near.now.caller in
    let far = c.args.far.now.caller in
    record {
      near_same = on_both near c.is_settled.new.near.caller c.round.new.near.caller (on_both near c.loop.near.caller c.is_settled.new.near.caller i.near_same c.is_settled.ensures.near_same) c.round.ensures.near_same;
      far_same = on_both far c.is_settled.new.far.caller c.round.new.far.caller (on_both far c.loop.far.caller c.is_settled.new.far.caller i.far_same c.is_settled.ensures.far_same) c.round.ensures.far_same;
      near_out = (search rules);
      near_from = (search rules);
      far_out = (search rules);
      far_from = (search rules);
      near_sound = c.in_ok-round.ensures.near_sound;
      far_sound = c.in_ok-round.ensures.far_sound;
      near_goes = goes_both IsAny near c.is_settled.new.near.caller c.round.new.near.caller.front (on_both near c.loop.near.caller c.is_settled.new.near.caller i.near_same c.is_settled.ensures.near_same)
          (goes_both IsAny near c.loop.near.caller c.is_settled.new.near.caller.front i.near_same i.near_goes c.in_ok-is_settled.ensures.near_goes) c.in_ok-round.ensures.near_goes;
      far_goes = goes_both IsAny far c.is_settled.new.far.caller c.round.new.far.caller.front (on_both far c.loop.far.caller c.is_settled.new.far.caller i.far_same c.is_settled.ensures.far_same)
          (goes_both IsAny far c.loop.far.caller c.is_settled.new.far.caller.front i.far_same i.far_goes c.in_ok-is_settled.ensures.far_goes) c.in_ok-round.ensures.far_goes;
      near_kept = λ lines k. c.in_ok-round.ensures.near_kept lines (c.in_ok-is_settled.ensures.near_kept lines (i.near_kept lines k));
      far_kept = λ lines k. c.in_ok-round.ensures.far_kept lines (c.in_ok-is_settled.ensures.far_kept lines (i.far_kept lines k));
    }

pub returns-then-branch-clause-near_goes : goal.returns-then-branch-clause-near_goes
returns-then-branch-clause-near_goes g c =
    let i = c.loop.invariant in
    let near = c.args.near.now.caller in
    subst (λ (k : Knowledge). GoesOn IsAny near k.front) (sym c.end.ensures.near_caller) (goes_both IsAny near c.loop.near.caller c.is_settled.new.near.caller.front i.near_same i.near_goes c.in_ok-is_settled.ensures.near_goes)

pub returns-then-branch-clause-far_goes : goal.returns-then-branch-clause-far_goes
returns-then-branch-clause-far_goes g c =
    let i = c.loop.invariant in
    let far = c.args.far.now.caller in
    subst (λ (k : Knowledge). GoesOn IsAny far k.front) (sym c.end.ensures.far_caller) (goes_both IsAny far c.loop.far.caller c.is_settled.new.far.caller.front i.far_same i.far_goes c.in_ok-is_settled.ensures.far_goes)

pub returns-then-branch-clause-far_ends : goal.returns-then-branch-clause-far_ends
returns-then-branch-clause-far_ends g c =
    let far = c.args.far.now in
    let mid = c.is_settled.new.far in
    let over = c.end.new.far in
    far_ends far.caller mid.caller over.caller far.knows mid.knows over.knows (sent far.out) (sent mid.out) (sent over.out) (received far.from) (received mid.from) (received over.from) c.end.ensures.far_caller c.end.ensures.far_knows
    (λ lines k. c.in_ok-is_settled.ensures.far_kept lines (c.loop.invariant.far_kept lines k)) c.in_ok-end.ensures.far_sent c.in_ok-end.ensures.far_received
