use Rattle.std.proofs.Common.{◌≡◌, [], ◌∷◌, sym, append_assoc, arith, subst}
use Rattle.std.proofs.lemmas.Grind.{common_steps}
use Rattle.rs_frame.specs.Spelling.{IsSpellable}
use Rattle.fragment.specs.Splitting.{split_of, first_fragment, rest_after}
use Rattle.fragment.specs.Views.{frame_in}
use Rattle.fragment.proofs.Cuts.{IsLong, rest_length, rest_whole, rest_spellable}
use Rattle.fragment.proofs.Splits.{split_cut, split_fits, all_spellable, all_short}
use Rattle.fragment.proofs.splitting.split.Goals as goal
use Rattle.fragment.proofs.splitting.split.Goals.{then-loop-rest-test+else-length-most, else-loop-rest-test}

pub loop-rest-smaller : goal.loop-rest-smaller
loop-rest-smaller c =
    let long : IsLong c.args.mtu (frame_in c.loop-rest.rest) = record {
      whole = c.loop-rest.invariant.whole;
      least = c.requires.limit.1 (omega arith);
      longer = omega arith;
    } in
    grind (arith, common_steps, c.after-rest.ensures, rest_length c.args.mtu (frame_in c.loop-rest.rest) long)

pub loop-rest-preserved : goal.loop-rest-preserved
loop-rest-preserved c =
    let rest = frame_in c.loop-rest.rest in
    let long : IsLong c.args.mtu rest = record {
      whole = c.loop-rest.invariant.whole;
      least = c.requires.limit.1 (omega arith);
      longer = omega arith;
    } in
    let cut = split_cut rest c.args.mtu long in
    let joined = append_assoc c.loop-rest.frames.items (first_fragment c.args.mtu rest ∷ []) (split_of (rest_after c.args.mtu rest) c.args.mtu) in
    record {
      split = cc (c.loop-rest.invariant.split, c.in_ok-push.ensures.items, c.in_ok-first.ensures, c.after-rest.ensures);
      whole = rw c.after-rest.ensures (rest_whole c.args.mtu rest c.loop-rest.invariant.whole);
      spellable = subst IsSpellable (sym c.after-rest.ensures) (rest_spellable c.args.mtu rest long c.loop-rest.invariant.spellable);
    }

pub returns-clause-split : goal.returns-clause-split
returns-clause-split c =
    let rest = frame_in c.loop-rest.rest in
    let alone : split_of rest c.args.mtu ≡ rest ∷ [] =
    elim c.loop-rest-test.branch [
      | then-loop-rest-test+else-length-most w ↦ split_fits rest c.args.mtu (omega arith)
      | else-loop-rest-test w ↦ grind (arith, common_steps)
    ] in
    cc (c.loop-rest.invariant.split, c.from_vec.ensures, c.in_ok-push-2.ensures.items, c.in_ok-whole.ensures, alone)

pub returns-clause-spellable : goal.returns-clause-spellable
returns-clause-spellable c =
    rw (returns-clause-split c) (all_spellable c.args.frame.now c.args.mtu c.requires.spellable c.requires.whole c.requires.limit)

pub returns-clause-short : goal.returns-clause-short
returns-clause-short c = λ limited.
    rw (returns-clause-split c) (all_short c.args.frame.now c.args.mtu c.requires.whole (c.requires.limit.1 (omega arith)))
