use Rattle.std.proofs.Common.{◌≡◌, ◌∙◌, ◌∷◌, [], ap, subst, sym}
use Rattle.session_model.specs.Legal.{Fair, Legal}
use Rattle.client.proofs.Whole.{closed_own}
use Rattle.rsocket_call.proofs.finish.put_away.Goals as goal

pub returns-clause-own : goal.returns-clause-own
returns-clause-own g c =
    let me = c.args.caller in
    let settings : c.in-Ok.session.settings ≡ me.of.settings = c.in-Ok.ensures.settings ∙ sym (ap (λ o. o.settings) c.requires.of) in
    let one : me.names ≡ me.number ∷ [] = c.requires.first.1 ∙ ap (λ n. n ∷ []) (sym c.requires.first.0) in
    closed_own me one c.in-Ok.ensures.named (record {
      legal = subst (λ s. Legal s me.front) settings (subst (λ l. Legal c.in-Ok.session.settings l) c.in-Ok.ensures.entries c.keep.ensures.tape.legal);
      fair = subst (λ s. Fair s me.front) settings (subst (λ l. Fair c.in-Ok.session.settings l) c.in-Ok.ensures.entries c.keep.ensures.tape.fair);
    })
