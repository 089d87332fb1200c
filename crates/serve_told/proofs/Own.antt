-- The jobs of a place's own slot, when its link has ended.
use Rattle.std.specs.List.{AllByRecursion}
use Rattle.std.specs.Option.{option_map}
use Rattle.std.proofs.lemmas.Bool.Decides.{nat_tests}
use Rattle.std.proofs.lemmas.Option.{slice_get-map}
use Rattle.std.proofs.Common.{◌≡◌, ◌≢◌, ◌==◌, ◌∙◌, ◌⊎◌, inl, inr, ℕ, Bool, true, false, List, [], ◌∷◌, ◌++◌, slice_get, Option, Some, None, IfSome, is_some, refl, sym, ap, subst, arith, append-nil}
use Rattle.rs_wire.specs.declared.settings.Settings.{Settings}
use Rattle.rs_frame.specs.declared.frame.Frame.{Frame}
use Rattle.rs_frame.specs.declared.frame.Frame.TheVariants as frame
use Rattle.rs_frame.specs.declared.frame.Resume.{Resume}
use Rattle.rs_wire.specs.declared.call.Call.TheVariants as call
use Rattle.outside.specs.Links.{Shown}
use Rattle.tape.specs.declared.answer.Answer.{Answer}
use Rattle.tape.specs.declared.answer.Answer.TheVariants as answer
use Rattle.tape.specs.declared.entry.Entry.{Entry}
use Rattle.tape.specs.declared.event.Event.TheVariants as event
use Rattle.session_model.specs.Answers.{answer_to}
use Rattle.session_model.specs.Legal.{Legal}
use Rattle.session_laws.proofs.OpenedOnce.{resumes_none}
use Rattle.conn_shared.specs.Members.{Knowledge}
use Rattle.handlers.specs.Listed.{Listed}
use Rattle.workers.specs.declared.job.OpenJob.{OpenJob}
use Rattle.workers.specs.Courses.{IsNoWork}
use Rattle.workers.specs.Serving.{Serving}
use Rattle.workers.proofs.Calling.{serving_begins}
use Rattle.workers.proofs.Waiting.{serving_waits}
use Rattle.server.specs.Attending.{Grants}
use Rattle.server.specs.declared.served.Served.{Served}
use Rattle.server.specs.declared.served.Served.TheVariants as served
use Rattle.server.specs.Opening.{AreBack, fronts, resumes}
use Rattle.server.specs.Serving.{Adds, At, KeepsServing, Opened}
use Rattle.server.proofs.Places.{same_got}
use Rattle.serve_model.specs.Names.{Under}
use Rattle.serve_laws.proofs.Taking.{call_goes}
use Rattle.serve_links.specs.Callers.{IsNewCaller, lease_ms, numbers}
use Rattle.serve_links.proofs.Added.{accepted_last}
use Rattle.serve_links.proofs.Linking.{works_at_home}
use Rattle.serve_fold.specs.Slots.{jobs_in}
use Rattle.serve_told.proofs.Lists.{all_at}
use Rattle.serve_told.proofs.Places.{back_from}

pub number_of : (callers : List Knowledge) (i : ℕ) (c : Knowledge) → slice_get callers i ≡ Some c → slice_get (numbers callers) i ≡ Some c.number
number_of callers i c is = slice_get-map (λ (x : Knowledge). x.number) callers i ∙ ap (option_map (λ (x : Knowledge). x.number)) is

pub front_of : (callers : List Knowledge) (i : ℕ) (c : Knowledge) → slice_get callers i ≡ Some c → slice_get (fronts callers) i ≡ Some c.front
front_of callers i c is = slice_get-map (λ (x : Knowledge). x.front) callers i ∙ ap (option_map (λ (x : Knowledge). x.front)) is

pub legal_earlier : (g : Settings) (more past : List Entry) → Legal g (more ++ past) → Legal g past
unfolding Legal
legal_earlier g [] past legal = legal
legal_earlier g (x ∷ more) past legal = legal_earlier g more past legal.0

pub same_or_not : (i j : ℕ) → (i ≡ j) ⊎ (i ≢ j)
same_or_not i j = elim (i == j) as (λ v. (i == j) ≡ v → (i ≡ j) ⊎ (i ≢ j)) [
  | true ↦ λ is. inl (grind (arith, nat_tests))
  | false ↦ λ is. inr (grind (arith, nat_tests))
] refl

-- ---- a caller that made no call of a worker

pub idle_serving : (names : List ℕ) (front : List Entry) (routes : List Listed) → Under names (λ x. IsNoWork x.event) front → Serving names front routes []
idle_serving names front routes idle =
    subst (λ (l : List Entry). Serving names l routes []) (append-nil front)
    (serving_waits names [] front routes [] idle (serving_begins names [] routes (λ x some. refl)))

pub none_in : (work : Option (List OpenJob)) → IfSome work (λ jobs. jobs ≡ []) → jobs_in work ≡ []
none_in None empty = refl
none_in (Some work) empty = empty

-- ---- where a connection was opened that is attended with a work

resume_is : (f : Frame) → resumes f ≡ true → (r : Resume) × (f ≡ frame.Resume r)
resume_is (frame.Resume r) is = (r, refl)
resume_is f is = absurd (cc)

not_false : (b : Bool) → (b ≡ false → ⊥) → b ≡ true
not_false true never = refl
not_false false never = absurd (never refl)

none_resumed : (g : Settings) (before : List Entry) (x : Entry) (r : Resume) (taken : Bool) (c : ℕ) → Legal g (x ∷ before) → g.resume ≡ false → x.event ≡ event.Open (Some (frame.Resume r)) taken → x.answer ≡ answer.Opened c → ⊥
unfolding Legal
none_resumed g before x r taken c legal off is answered =
    resumes_none g before r taken c legal.0 off (subst (λ e. answer_to g before e ≡ answer.Opened c) is (sym legal.1.answered ∙ answered))

-- what was seen before a lease was asked for
leased_on : (g : Settings) (grant : Option ℕ) (me : Knowledge) (a : Answer) (leased : List Entry) → Grants g grant me a leased → (more : List Entry) × (leased ≡ more ++ me.front)
leased_on g None me a leased granted = ([], granted.1)
leased_on g (Some count) me a leased granted =
    let goes = call_goes (λ e. Unit {0}) g me (event.Asked (call.Lease lease_ms count None)) a leased tt granted in
    (goes.more, goes.on)

at_is : (callers : List Knowledge) (at : ℕ) (me : Knowledge) (P : Knowledge → Type 0) → slice_get callers at ≡ Some me → At callers at P → P me
at_is callers at me P is holds = subst (λ (o : Option Knowledge). IfSome o P) is holds

module _ (g : Settings) (moments : Option (List ℕ)) (grant : Option ℕ) (routes : List Listed) (k : ℕ) (olds news : List Knowledge) (link : Shown) (s : Served) (fresh : AllByRecursion IsNewCaller olds) (back : AreBack olds news)
    (legal : AllByRecursion (λ (me : Knowledge). Legal g me.front) news) (memory : s ≢ served.OutOfMemory) where
  -- it was opened at the link's own slot, where there is no resumption
  at_home : (helps : Bool) (at c : ℕ) → Opened g moments helps grant k at c olds news link s → g.resume ≡ false → at ≡ k
  at_home helps at c o off = by (same_or_not at k)
    where
      resumed : at ≢ k → ⊥
      resumed apart =
          let r = resume_is o.first (not_false (resumes o.first) (λ none. apart (o.opens.place none))) in
          let last = accepted_last g moments o.opens.old o.first o.opens.taken c o.opens.new.front o.opens.tries in
          let same : o.opens.new ≡ o.old = same_got o.opens.new o.old (slice_get o.mid at) o.opens.is o.was in
          let whole : Legal g o.new.front = all_at (λ (me : Knowledge). Legal g me.front) news at o.new legal o.is in
          let leased = leased_on g grant o.old o.lease o.attends.leased o.attends.lease in
          let early : Legal g o.attends.leased = legal_earlier g o.attends.rest.more o.attends.leased (subst (Legal g) o.attends.rest.on whole) in
          let first : Legal g o.old.front = legal_earlier g leased.0 o.old.front (subst (Legal g) leased.1 early) in
          let opening : Legal g o.opens.new.front = subst (λ (x : Knowledge). Legal g x.front) (sym same) first in
          none_resumed g last.0 _ r.0 o.opens.taken c (subst (Legal g) last.1 opening) off (ap (λ f. event.Open (Some f) o.opens.taken) r.1) refl

      by : (at ≡ k) ⊎ (at ≢ k) → at ≡ k
      by (inl same) = same
      by (inr apart) = absurd (resumed apart)

  module _ (n : Knowledge) (is : slice_get news k ≡ Some n) where
    old : (o : Knowledge) × (slice_get olds k ≡ Some o) × (n ≡ record o { front = n.front; note = n.note })
    old = back_from olds news k n back is

    new : IsNewCaller old.0
    new = all_at IsNewCaller olds k old.0 fresh old.1

    names : n.names ≡ n.number ∷ []
    names = ap (λ (x : Knowledge). x.names) old.2 ∙ (new.0 ∙ ap (λ (x : Knowledge). x.number ∷ []) (sym old.2))

    -- without a work, or without an opening, it made no call of a worker
    quiet : (helps : Bool) (o : Option (ℕ × ℕ)) → Adds g moments helps grant k olds news link (s, o) → helps ≡ false → Serving n.names n.front routes []
    quiet helps o adds none =
        let never : helps ≡ true → ⊥ = λ h. (let e : true ≡ false = sym h ∙ none in cc) in
        subst (λ (ns : List ℕ). Serving ns n.front routes []) (sym names)
        (idle_serving (n.number ∷ []) n.front routes
        (works_at_home g moments helps grant k olds news link s fresh back legal (λ h. absurd (never h)) memory o adds k n.number n.front (λ h. absurd (never h)) (number_of news k n is) (front_of news k n is)))

    pub begins : (o : Option (ℕ × ℕ)) (was now : Option (List OpenJob)) → Adds g moments (is_some was) grant k olds news link (s, o) → KeepsServing routes olds news was now (s, o) → IfSome was (λ work. work ≡ [])
        → (is_some was ≡ true → g.resume ≡ false) → Serving n.names n.front routes (jobs_in now)
    begins o None now adds keeps empty off = subst (λ (w : Option (List OpenJob)). Serving n.names n.front routes (jobs_in w)) (sym keeps) (quiet false o adds refl)
    begins None (Some was) None adds keeps empty off = absurd (cc)
    begins None (Some was) (Some now) adds keeps empty off =
        let same : now ≡ [] = (let e : now ≡ was = cc in e ∙ empty) in
        subst (λ (w : List OpenJob). Serving n.names n.front routes w) (sym same) (quiet false None adds refl)
    begins (Some (at, c)) (Some was) None adds keeps empty off = absurd (cc)
    begins (Some (at, c)) (Some was) (Some now) adds keeps empty off =
        let home : at ≡ k = at_home true at c adds (off refl) in
        let keeps_here : At olds k (λ a. At news k (λ b. Serving a.names a.front routes was → Serving b.names b.front routes now)) =
        subst (λ (i : ℕ). At olds i (λ a. At news i (λ b. Serving a.names a.front routes was → Serving b.names b.front routes now))) home keeps in
        at_is news k n (λ b. Serving old.0.names old.0.front routes was → Serving b.names b.front routes now) is
        (at_is olds k old.0 (λ a. At news k (λ b. Serving a.names a.front routes was → Serving b.names b.front routes now)) old.1 keeps_here)
        (subst (λ (w : List OpenJob). Serving old.0.names old.0.front routes w) (sym empty) (serving_begins old.0.names old.0.front routes new.1))
