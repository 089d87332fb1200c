use Rattle.std.proofs.Common.{◌≡◌, false, ℕ, refl, sym, subst, arith}
use Rattle.std.proofs.lemmas.Bool.Decides.{nat_tests}
use Rattle.interactions.specs.Seen.{known_to}
use Rattle.reassembly.specs.Gathering.{has_part_at}
use Rattle.stream_model.specs.Known.{hears_on}
use Rattle.session_core.proofs.AfterTake.{after_take}
use Rattle.session_core.proofs.state.State.take.Goals as goal

pub returns-clause-after : goal.returns-clause-after
returns-clause-after c g =
    let gone = c.let_stream_go.ensures in
    after_take g c.args.self.now _ c.args.stream c.in_ok-delivery.delivery c.take.new.self c.let_stream_go.new.parts c.requires.heard c.in_ok-delivery.ensures.after
    (record {
      heard = gone.heard;
      over = λ s on none.
          let same : c.args.stream ≡ s = grind (arith, nat_tests) in
          subst (λ (n : ℕ). has_part_at c.let_stream_go.new.parts n ≡ false) same (gone.over (subst (λ (n : ℕ). hears_on ((known_to c.take.new.self).kept n) ≡ false) (sym same) none));
      others = gone.others;
    })
    refl
