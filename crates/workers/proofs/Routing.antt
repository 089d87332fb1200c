-- The route of a job, and the law that it leads to.
use Rattle.std.proofs.lemmas.List.Quantifiers.{position-Some}
use Rattle.std.proofs.Common.{◌≡◌, ◌<◌, ◌∙◌, ℕ, zero, suc, true, List, [], ◌∷◌, length, get_or, refl, sym, ap, arith}
use Rattle.std.specs.Prelude.{Option, Some, None, is_some, slice_get}
use Rattle.rs_wire.specs.declared.words.Kind.{Kind}
use Rattle.rs_wire.specs.declared.words.Kind.TheVariants as kind
use Rattle.handlers.specs.Listed.{Listed, is_for, place}
use Rattle.handlers.specs.declared.law.Law.{Law}
use Rattle.handlers.specs.declared.law.Law.TheVariants as law
use Rattle.workers.specs.declared.job.OpenJob.{OpenJob}
use Rattle.workers.specs.declared.job.Stage.TheVariants as stage
use Rattle.workers.specs.Replies.{law_at, law_in, name_of}
use Rattle.workers.specs.Serving.{AreRouted, IsRouted}
use Rattle.workers.specs.Going.{Awaits}

read_within : (routes : List Listed) (n : ℕ) → n < length routes → (l : Law) × (law_in (slice_get routes n) ≡ Some l)
read_within [] n within = absurd (omega arith)
read_within (r ∷ routes) zero within = (r.law, refl)
read_within (r ∷ routes) (suc n) within = read_within routes n (omega arith)

law_there : (routes : List Listed) (name : List ℕ) (k : Kind) (route : Option ℕ) → route ≡ place routes name k → is_some route ≡ true → (l : Law) × (law_at routes (place routes name k) ≡ Some l)
law_there routes name k None is some = absurd (cc)
law_there routes name k (Some n) is some =
    let at = position-Some (is_for name k) routes n (record { name = []; kind = k; law = law.Drop }) (sym is) in
    let read = read_within routes n at.0 in
    (read.0, ap (law_at routes) (sym is) ∙ read.1)

-- a channel with a route, all of whose contents so far are answered
pub found_awaits : (routes : List Listed) (j : OpenJob) → IsRouted routes j → is_some j.route ≡ true → j.kind ≡ kind.Channel → j.stage ≡ stage.Answered → Awaits routes j
found_awaits routes j is some channel answered =
    let l = law_there routes (name_of j.message) j.kind j.route is some in
    record { law = l.0; found = l.1; channel = channel; answered = answered }

pub routed_at : (routes : List Listed) (jobs : List OpenJob) (n : ℕ) (d : OpenJob) → n < length jobs → AreRouted routes jobs → IsRouted routes (get_or jobs n d)
routed_at routes [] n d within h = absurd (omega arith)
routed_at routes (j ∷ jobs) zero d within h = h.0
routed_at routes (j ∷ jobs) (suc n) d within h = routed_at routes jobs n d (omega arith) h.1
