-- A fire-and-forget delivers nothing, so all of it is taken.
use Rattle.std.proofs.Common.{◌≡◌, ◌==◌, ◌&&◌, ◌∙◌, ℕ, Bool, true, false, true≢false, if◌then◌else◌, List, [], ◌∷◌, ◌++◌, Option, Some, None, refl, ap, subst, sym}
use Rattle.rs_wire.specs.declared.words.Kind.{Kind}
use Rattle.rs_wire.specs.declared.words.Kind.TheVariants as kinds
use Rattle.rs_wire.specs.declared.words.Role.{Role}
use Rattle.rs_wire.specs.declared.words.Role.TheVariants.{Requester, Responder}
use Rattle.rs_wire.specs.declared.words.Way.TheVariants as way
use Rattle.rs_wire.specs.declared.message.Message.{Message}
use Rattle.rs_wire.specs.declared.delivery.Delivery.{Delivery}
use Rattle.rs_wire.specs.declared.delivery.Delivery.TheVariants as delivery
use Rattle.rs_wire.specs.declared.settings.Settings.{Settings}
use Rattle.rs_wire.specs.declared.call.Call.TheVariants as call
use Rattle.tape.specs.declared.event.Event.{Event}
use Rattle.tape.specs.declared.event.Event.TheVariants as event
use Rattle.tape.specs.declared.answer.Answer.{Answer}
use Rattle.tape.specs.declared.answer.Answer.TheVariants as answer
use Rattle.tape.specs.declared.entry.Entry.{Entry}
use Rattle.stream_model.specs.Marks.{Opening, Mark, Opens, Passed, Sent, Got, Pushed, Took, TookJob}
use Rattle.stream_model.specs.Arriving.{ours}
use Rattle.stream_model.specs.Turns.{Turn, Word, Said, Taken, delivered, ends, inbound, is_channel, is_fnf, is_role, opening_ends, other, over, taken, waiting}
use Rattle.stream_model.specs.Streams.{goes_on, turn}
use Rattle.stream_model.specs.Fair.{Fair as FairMarks, FairWords, Fits}
use Rattle.stream_model.proofs.Ids.{fresh, others_stay, same_id, turn_got, turn_job, turn_opened, turn_passed, turn_pushed, turn_sent, turn_took}
use Rattle.stream_model.proofs.Streams.{fair_words}
use Rattle.session_model.specs.Leases.{is_covered}
use Rattle.session_model.specs.Streams.{heard_in, marks_in, unfinished, words}
use Rattle.session_model.specs.Answers.{facts}
use Rattle.session_model.specs.Legal.{Fair, Legal}
use Rattle.session_model.specs.Lists.{first_of}
use Rattle.session_model.specs.Means.{Means}
use Rattle.session_model.proofs.Fairness.{legal_fair}
use Rattle.session_model.proofs.Meaning.{last_means}
use Rattle.session_laws.specs.Streams.{IsLawful}
use Rattle.call_model.specs.Saying.{delivered_of, delivered_on, got_on, started, started_in}
use Rattle.call_model.specs.Order.{Asking, InOrder, MayAsk, MayFollow, request_of}
use Rattle.call_model.proofs.Takes.{here_or_not, taken_of, takes_are}

-- ---- the words of a fire-and-forget

none_first : (role : Role) (kind : Kind) (whole : Option (Message × Bool)) → is_fnf kind ≡ true → ◌≡◌ {A = List Delivery} (if is_role role Responder && is_channel kind && opening_ends kind whole way.Request then delivery.Complete ∷ [] else []) []
none_first Requester kinds.Fnf whole is = refl
none_first Responder kinds.Fnf whole is = refl
none_first role kinds.Response whole is = absurd (true≢false (sym is))
none_first role kinds.Stream whole is = absurd (true≢false (sym is))
none_first role kinds.Channel whole is = absurd (true≢false (sym is))

none_all : (a b c : Bool) → ◌≡◌ {A = List Delivery} (if a then [] else if b then (if c then [] else []) else []) []
none_all true b c = refl
none_all false true true = refl
none_all false true false = refl
none_all false false c = refl

none_delivered : (o : Opening) (xs : List Word) → is_fnf o.kind ≡ true → FairWords o xs → (delivered o xs ≡ []) × (taken xs ≡ [])
unfolding delivered taken waiting FairWords
none_delivered o [] fnf fair = (none_first o.role o.kind o.whole fnf, refl)
none_delivered o (Taken d ∷ xs) fnf fair =
    let before = none_delivered o xs fnf fair.0 in
    let first = fair.1.take in
    let none : waiting o xs ≡ [] = rw (before.0, before.1) refl in
    absurd (let no : [] ≡ d ∷ first.0 = sym none ∙ first.1 in cc)
none_delivered o (Said by step ∷ xs) fnf fair =
    let before = none_delivered o xs fnf fair.0 in
    (rw (before.0, before.1, fnf) (none_all (over o xs (inbound o.role)) (is_role o.role by) (ends o.kind (inbound o.role) (Said by step))), before.1)

-- ---- the request of a stream stays

record HasTurn (most : ℕ) (seen : List Mark) (s : ℕ) (o : Opening) : Type 0 where
  said : List Word
  there : turn most seen s ≡ Some (record { opening = o; words = said })

kept_by : (most : ℕ) (seen : List Mark) (m : Mark) (s : ℕ) (o : Opening) → Fits most seen m → HasTurn most seen s o → HasTurn most (m ∷ seen) s o
kept_by most seen (Opens q p) s o fits h =
    here_or_not (λ i. Fits most seen (Opens i p) → HasTurn most (Opens i p ∷ seen) s o) q s (q == s) refl
    (λ same. subst (λ i. Fits most seen (Opens i p) → HasTurn most (Opens i p ∷ seen) s o) (sym same) (λ f. absurd (let no : None ≡ Some (record { opening = o; words = h.said }) = sym (fresh most seen s f.fresh) ∙ h.there in cc)))
    (λ apart f. record { said = h.said; there = others_stay most seen (Opens q p) q s (same_id q) apart ∙ h.there }) fits
kept_by most seen (Passed q) s o fits h = record { said = h.said; there = turn_passed most seen q s ∙ h.there }
kept_by most seen (Sent q step) s o fits h =
    here_or_not (λ i. HasTurn most (Sent i step ∷ seen) s o) q s (q == s) refl
    (λ same. subst (λ i. HasTurn most (Sent i step ∷ seen) s o) (sym same) (record { said = Said o.role step ∷ h.said; there = turn_sent most seen s step ∙ ap (λ (t : Option Turn). goes_on t (λ role. Said role step)) h.there }))
    (λ apart. record { said = h.said; there = others_stay most seen (Sent q step) q s (same_id q) apart ∙ h.there })
kept_by most seen (Got q step) s o fits h =
    here_or_not (λ i. HasTurn most (Got i step ∷ seen) s o) q s (q == s) refl
    (λ same. subst (λ i. HasTurn most (Got i step ∷ seen) s o) (sym same) (record { said = Said (other o.role) step ∷ h.said; there = turn_got most seen s step ∙ ap (λ (t : Option Turn). goes_on t (λ role. Said (other role) step)) h.there }))
    (λ apart. record { said = h.said; there = others_stay most seen (Got q step) q s (same_id q) apart ∙ h.there })
kept_by most seen (Pushed metadata) s o fits h = record { said = h.said; there = turn_pushed most seen metadata s ∙ h.there }
kept_by most seen (Took q d) s o fits h =
    here_or_not (λ i. HasTurn most (Took i d ∷ seen) s o) q s (q == s) refl
    (λ same. subst (λ i. HasTurn most (Took i d ∷ seen) s o) (sym same) (record { said = Taken d ∷ h.said; there = turn_took most seen s d ∙ ap (λ (t : Option Turn). goes_on t (λ role. Taken d)) h.there }))
    (λ apart. record { said = h.said; there = others_stay most seen (Took q d) q s (same_id q) apart ∙ h.there })
kept_by most seen TookJob s o fits h = record { said = h.said; there = turn_job most seen s ∙ h.there }

kept_all : (most : ℕ) (more seen : List Mark) (s : ℕ) (o : Opening) → FairMarks most (more ++ seen) → HasTurn most seen s o → HasTurn most (more ++ seen) s o
unfolding FairMarks
kept_all most [] seen s o fair h = h
kept_all most (m ∷ more) seen s o fair h = kept_by most (more ++ seen) m s o fair.1 (kept_all most more seen s o fair.0 h)

-- the stream of a call has its kind
record HasKind (g : Settings) (past : List Entry) (s : ℕ) (k : Kind) : Type 0 where
  opening : Opening
  there : HasTurn g.max_streams (words g past) s opening
  kind : opening.kind ≡ k

kept_kind : (g : Settings) (past : List Entry) (x : Entry) (s : ℕ) (k : Kind) → IsLawful g (x ∷ past) → HasKind g past s k → HasKind g (x ∷ past) s k
unfolding heard_in
kept_kind g past x s k lawful h = record {
  opening = h.opening;
  there = kept_all g.max_streams (marks_in (is_covered g past) (unfinished g past) x.answer x.event) (words g past) s h.opening (legal_fair g (x ∷ past) lawful.legal lawful.fair) h.there;
  kind = h.kind;
}

first_kind : (g : Settings) (w : Asking) (past : List Entry) (who s : ℕ) (e : Event) (a : Answer) → IsLawful g (record { who = who; event = e; answer = a } ∷ past) → Means g (facts g past) e a → MayFollow w past e → started past ≡ None → started_in a ≡ Some s → HasKind g (record { who = who; event = e; answer = a } ∷ past) s w.kind
unfolding heard_in FairMarks
first_kind g w past who s (event.Asked (call.Request k initial message complete)) (answer.Started id) lawful means may none is =
    let x : Entry = record { who = who; event = event.Asked (call.Request k initial message complete); answer = answer.Started id } in
    let fair = legal_fair g (x ∷ past) lawful.legal lawful.fair in
    let o = ours k initial message complete in
    let same : id ≡ s = (let e : Some id ≡ Some s = is in cc) in
    let asked : MayAsk w past None (call.Request k initial message complete) = subst (λ (z : Option ℕ). MayAsk w past z (call.Request k initial message complete)) none may in
    let kind : k ≡ w.kind = (let e : call.Request k initial message complete ≡ request_of w = asked.0 in cc) in
    subst (λ n. HasKind g (x ∷ past) n w.kind) same (record {
      opening = o;
      there = record { said = []; there = turn_opened g.max_streams (words g past) id o fair.1.fresh };
      kind = kind;
    })
first_kind g w past who s _ (answer.Started id) lawful means may none is = absurd means
first_kind g w past who s e _ lawful means may none is = absurd (let no : None ≡ Some s = is in cc)

has_kind : (g : Settings) (w : Asking) (past : List Entry) (s : ℕ) → IsLawful g past → InOrder w past → started past ≡ Some s → HasKind g past s w.kind
unfolding Legal Fair InOrder started
has_kind g w [] s lawful order is = absurd (let no : None ≡ Some s = is in cc)
has_kind g w (x ∷ past) s lawful order is = by (started past) refl is (has_kind g w past s (record { legal = lawful.legal.0; fair = lawful.fair.0 }) order.0)
  where
    by : (o : Option ℕ) → started past ≡ o → first_of o (started_in x.answer) ≡ Some s → (started past ≡ Some s → HasKind g past s w.kind) → HasKind g (x ∷ past) s w.kind
    by None none first before = first_kind g w past x.who s x.event x.answer lawful (last_means g x past lawful.legal) order.1.may none first
    by (Some q) some first before = (let same : q ≡ s = (let e : Some q ≡ Some s = first in cc) in kept_kind g past x s w.kind lawful (before (some ∙ ap Some same)))

-- all that is delivered on the stream of a fire-and-forget is taken: nothing
pub taken_fnf : (g : Settings) (w : Asking) (past : List Entry) (s : ℕ) → IsLawful g past → InOrder w past → is_fnf w.kind ≡ true → started past ≡ Some s → got_on past s ≡ delivered_on g past s
taken_fnf g w past s lawful order fnf is =
    let h = has_kind g w past s lawful order is in
    let o = h.opening in
    let t : Turn = record { opening = o; words = h.there.said } in
    let fair = fair_words g.max_streams (words g past) s t (legal_fair g past lawful.legal lawful.fair) h.there.there in
    let none = none_delivered o h.there.said (ap is_fnf h.kind ∙ fnf) fair in
    sym (takes_are g past s lawful) ∙ (ap taken_of h.there.there ∙ (none.1 ∙ (sym none.0 ∙ sym (ap delivered_of h.there.there))))
