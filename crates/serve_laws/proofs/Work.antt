-- The jobs of a slot, once all its callers are taken in.
use Rattle.std.proofs.lemmas.Bool.Decides.{nat_tests}
use Rattle.std.proofs.Common.{◌≡◌, ◌≢◌, ◌<◌, ◌≤◌, ◌^◌, ◌==◌, ◌∙◌, ◌⊎◌, inl, inr, ℕ, zero, suc, true, false, List, [], ◌∷◌, ◌++◌, length, refl, sym, subst, arith, length-append, append_assoc}
use Rattle.rs_wire.specs.declared.call.Call.TheVariants as call
use Rattle.rs_wire.specs.declared.settings.Settings.{Settings}
use Rattle.tape.specs.Told.{entry_of}
use Rattle.tape.specs.declared.answer.Answer.TheVariants as answer
use Rattle.tape.specs.declared.entry.Entry.{Entry}
use Rattle.tape.specs.declared.event.Event.TheVariants as event
use Rattle.stream_model.specs.Streams.{jobs}
use Rattle.session_model.specs.Streams.{words}
use Rattle.session_laws.specs.Jobs.{jobs_got}
use Rattle.session_laws.specs.Streams.{IsLawful}
use Rattle.conn_lock.specs.Callers.{times}
use Rattle.handlers.specs.Listed.{Listed}
use Rattle.workers.specs.Causes.{IsRight}
use Rattle.workers.specs.Courses.{Course, IsNoWork, course, no_course}
use Rattle.workers.specs.Serving.{IsGone}
use Rattle.workers.proofs.Waiting.{course_of_none, course_of_one}
use Rattle.serve_model.specs.Names.{AreNamed, Under}
use Rattle.serve_model.proofs.Jobs.{all_were_got}
use Rattle.serve_model.proofs.Names.{times_append}
use Rattle.serve_laws.specs.Knowing.{HasNoMore, KnowsJobs}
use Rattle.serve_laws.specs.Tapes.{AreServed}
use Rattle.serve_laws.proofs.Events.{one_name}

-- ---- all jobs were got

longer : (more past : List Entry) → length past ≤ length (more ++ past)
longer more past = omega (arith, length-append more past)

pub all_got : (g : Settings) (past : List Entry) → IsLawful g past → HasNoMore g past → (2 ^ 63 ≤ length past) ⊎ (jobs_got past ≡ jobs g.max_streams (words g past))
unfolding IsRight
all_got g past lawful (n, old, answer.TapeFull, ended) =
    let full = ended.0.full.0 refl in
    let after = ended.0.up_to in
    inl (subst (λ l. 2 ^ 63 ≤ length l) (sym after.1) (omega (arith, full, longer after.0 ended.0.before)))
all_got g past lawful (n, old, answer.Refused why, ended) =
    let after = ended.0.up_to in
    let x = entry_of n (event.Asked call.TakeJob) (answer.Refused why) in
    let more = after.0 ++ x ∷ [] in
    let on : past ≡ more ++ ended.0.before = after.1 ∙ sym (append_assoc after.0 (x ∷ []) ended.0.before) in
    inr (subst (λ l. jobs_got l ≡ jobs g.max_streams (words g l)) (sym on) (all_were_got g more ended.0.before why (subst (IsLawful g) on lawful) (sym ended.0.answered)))
all_got g past lawful (n, old, a, ended) = absurd ended.1

-- ---- under each number

nothing_gone : (routes : List Listed) (entries s : ℕ) (c : Course) → c ≡ no_course → IsGone routes entries s c c.job
nothing_gone routes entries s c none = subst (λ (d : Course). IsGone routes entries s d d.job) (sym none) refl

quiet_gone : (routes : List Listed) (m s : ℕ) (past : List Entry) → Under (m ∷ []) (λ x. IsNoWork x.event) past → IsGone routes (length past) s (course (m ∷ []) s past) (course (m ∷ []) s past).job
quiet_gone routes m s past none = nothing_gone routes (length past) s (course (m ∷ []) s past) (course_of_none (m ∷ []) s past none)

-- another caller of a link made no call of a worker
others_quiet : (names : List ℕ) (n m : ℕ) (past : List Entry) → m ≢ n → 0 < times m names → Under names (λ x. IsNoWork x.event ⊎ (x.who ≡ n)) past → Under (m ∷ []) (λ x. IsNoWork x.event) past
others_quiet names n m [] apart there one = tt
others_quiet names n m (x ∷ past) apart there one = (λ some. by (one_name m x.who some) (one.0 (subst (λ k. 0 < times k names) (sym (one_name m x.who some)) there)), others_quiet names n m past apart there one.1)
  where
    by : x.who ≡ m → IsNoWork x.event ⊎ (x.who ≡ n) → IsNoWork x.event
    by is (inl none) = none
    by is (inr mine) = absurd (apart (sym is ∙ mine))

-- nobody has this number
nobody_here : (names : List ℕ) (m : ℕ) (past : List Entry) → times m names ≡ 0 → AreNamed names past → Under (m ∷ []) (λ x. IsNoWork x.event) past
nobody_here names m [] none named = tt
nobody_here names m (x ∷ past) none named = (
  λ some. absurd (let h : 0 < times m names = subst (λ k. 0 < times k names) (one_name m x.who some) named.0 in omega (arith, h, none)),
  nobody_here names m past none named.1,
)

module _ (g : Settings) (routes : List Listed) (names workers : List ℕ) (n : ℕ) (past : List Entry) (named : AreNamed (names ++ workers) past) (jobs : KnowsJobs g routes names workers n past) where
  Gone : ℕ → ℕ → Type 0
  Gone m s = IsGone routes (length past) s (course (m ∷ []) s past) (course (m ∷ []) s past).job

  -- the number that made the calls of a worker among the links' callers
  mine_gone : (s : ℕ) → Gone n s
  unfolding Gone
  mine_gone s = subst (λ (c : Course). IsGone routes (length past) s c c.job) (course_of_one names n s past jobs.one jobs.there) (jobs.served s)

  link_gone : (m s : ℕ) → 0 < times m names → Gone m s
  unfolding Gone
  link_gone m s there = elim (m == n) as (λ v. (m == n) ≡ v → Gone m s) [
    | true ↦ λ is. let same : m ≡ n = grind (arith, nat_tests) in subst (λ k. Gone k s) (sym same) (mine_gone s)
    | false ↦ λ is. quiet_gone routes m s past (others_quiet names n m past (grind (arith, nat_tests)) there jobs.one)
  ] refl

  gone : (m s : ℕ) → Gone m s
  unfolding Gone
  gone m s = by (times m workers) (times m names) refl refl
    where
      by : (a b : ℕ) → times m workers ≡ a → times m names ≡ b → Gone m s
      by (suc a) b works there = jobs.work.served m (omega (arith, works)) s
      by zero (suc b) works there = link_gone m s (omega (arith, there))
      by zero zero works there = quiet_gone routes m s past (nobody_here (names ++ workers) m past (let t = times_append m names workers in omega (arith, t, works, there)) named)

  pub jobs_are : IsLawful g past → AreServed g routes past
  unfolding Gone
  jobs_are lawful = record {
    got = all_got g past lawful jobs.no_more;
    answered = gone;
  }
