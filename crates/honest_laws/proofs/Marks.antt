-- What is kept of each stream of an end, against the sums over the frames that it made and handled, after each of its entries.
use Rattle.std.proofs.Common.{◌≡◌, ◌≤◌, ◌<◌, ◌%◌, ◌==◌, ℕ, Bool, true, false, not, cond, ltb, max, List, [], ◌∷◌, ◌++◌, Option, Some, None, is_some, refl, ap, sym, subst, ◌∙◌, arith}
use Rattle.std.proofs.lemmas.Bool.{eqb-true}
use Rattle.rs_wire.specs.declared.words.Kind.{Kind}
use Rattle.rs_wire.specs.declared.words.Side.{Side}
use Rattle.rs_wire.specs.declared.message.Message.{Message}
use Rattle.rs_wire.specs.declared.delivery.Delivery.{Delivery}
use Rattle.rs_frame.specs.declared.frame.Frame.{Frame}
use Rattle.rs_frame.specs.declared.frame.Frame.TheVariants as frame
use Rattle.rs_frame.specs.declared.frame.Request.{Request}
use Rattle.stream_model.specs.Marks.{Step, Mark, Opens, Passed, Sent, Got, Pushed, Took, TookJob}
use Rattle.stream_model.specs.Turns.{Said, Taken, Turn, other}
use Rattle.stream_model.specs.Streams.{higher, highest, is_admitted, live, turn}
use Rattle.stream_model.specs.Kept.{stream_of}
use Rattle.stream_model.specs.Known.{is_own_parity}
use Rattle.stream_model.specs.Arriving.{heard, or_zero, ours, theirs}
use Rattle.stream_model.proofs.Ids.{fresh, highest_opens, highest_passed, highest_said, others_stay, same_id, turn_got, turn_job, turn_opened, turn_passed, turn_pushed, turn_sent, turn_took}
use Rattle.session_model.specs.Streams.{request_in, whole_in}
use Rattle.session_model.specs.Frames.{in_fragments, request_frame, turned_away, turned_away_with}
use Rattle.honest_laws.proofs.Counts.{Counts, counts, counts_none, counts_one, elsewhere_none, none, plus, plus_none, request_counted}
use Rattle.honest_laws.proofs.Keeps.{Keeps, OwnRequest, PeersRequest, keeps_any, keeps_first, keeps_idle, keeps_own, keeps_used, own_opens, peer_opens}
use Rattle.honest_laws.proofs.Tally.{Adds, Bare, Tally, nothing_said}

-- ---- one stream, before and after some marks

abbrev pub At : Side → ℕ → ℕ → Counts → Counts → List Mark → Type 0
At side most s M H W = Keeps side s M H (highest (s % 2) W) (turn most W s)

abbrev pub Went : Side → ℕ → ℕ → Counts → Counts → List Mark → List Frame → List Frame → List Mark → Type 0
Went side most s M H W new hs marks = Keeps side s (plus M (counts s new)) (plus H (counts s hs)) (highest (s % 2) (marks ++ W)) (turn most (marks ++ W) s)

pub nothing : (side : Side) (most s : ℕ) (M H : Counts) (W : List Mark) → At side most s M H W → Went side most s M H W [] [] []
nothing side most s M H W k = rw (counts_none s, plus_none M, plus_none H) k

-- what is handled says nothing here
pub unheard : (side : Side) (most s : ℕ) (M H : Counts) (W : List Mark) (hs : List Frame) → (counts s hs).parts ≡ 0 → At side most s M H W → Went side most s M H W [] hs []
unheard side most s M H W hs zero k = rw (counts_none s, plus_none M) (keeps_idle side s M H (counts s hs) (highest (s % 2) W) (highest (s % 2) W) (turn most W s) (omega arith) zero k)

-- ---- own steps

said_here : (side : Side) (most s : ℕ) (M H m : Counts) (W : List Mark) (step : Step) (new : List Frame) (u : Turn) → turn most W s ≡ Some u → counts s new ≡ m
    → Adds (stream_of u.opening u.words) (Said u.opening.role step) (not (is_some u.opening.whole)) m none → At side most s M H W → Went side most s M H W new [] (Sent s step ∷ [])
said_here side most s M H m W step new u is e a k =
    rw (counts_none s, e, highest_said (s % 2) W (Sent s step) refl, turn_sent most W s step)
    (keeps_own side s M H m none (highest (s % 2) W) (turn most W s) u (λ role. Said role step) is k a)

said_elsewhere : (side : Side) (most s : ℕ) (M H : Counts) (W : List Mark) (q : ℕ) (step : Step) (new : List Frame) → (q == s) ≡ false → counts s new ≡ none → At side most s M H W
    → Went side most s M H W new [] (Sent q step ∷ [])
said_elsewhere side most s M H W q step new apart e k =
    rw (counts_none s, e, plus_none M, plus_none H, highest_said (s % 2) W (Sent q step) refl, others_stay most W (Sent q step) q s (same_id q) apart) k

-- a step on a stream of which something is kept; m says what it adds to the sums here, or elsewhere
pub said_step : (side : Side) (most s : ℕ) (M H : Counts) (W : List Mark) (q : ℕ) (step : Step) (new : List Frame) (m : Bool → Counts) (u : Turn) (b : Bool) → (q == s) ≡ b → counts s new ≡ m b → m false ≡ none
    → turn most W q ≡ Some u
    → (Tally side s M H (stream_of u.opening u.words) (not (is_some u.opening.whole)) → Adds (stream_of u.opening u.words) (Said u.opening.role step) (not (is_some u.opening.whole)) (m true) none)
    → At side most s M H W → Went side most s M H W new [] (Sent q step ∷ [])
said_step side most s M H W q step new m u true is e zero there adds k =
    let same : q ≡ s = eqb-true q s is in
    let here : turn most W s ≡ Some u = subst (λ (i : ℕ). turn most W i ≡ Some u) same there in
    let t : Tally side s M H (stream_of u.opening u.words) (not (is_some u.opening.whole)) = subst (Keeps side s M H (highest (s % 2) W)) here k in
    subst (λ (i : ℕ). Went side most s M H W new [] (Sent i step ∷ [])) (sym same) (said_here side most s M H (m true) W step new u here e (adds t) k)
said_step side most s M H W q step new m u false is e zero there adds k = said_elsewhere side most s M H W q step new is (e ∙ zero) k

-- ---- what a caller takes

pub took_step : (side : Side) (most s : ℕ) (M H : Counts) (W : List Mark) (q : ℕ) (d : Delivery) (b : Bool) → (q == s) ≡ b → At side most s M H W → Went side most s M H W [] [] (Took q d ∷ [])
took_step side most s M H W q d true is k =
    let same : q ≡ s = eqb-true q s is in
    subst (λ (i : ℕ). Went side most s M H W [] [] (Took i d ∷ [])) (sym same)
    (rw (counts_none s, highest_said (s % 2) W (Took s d) refl, turn_took most W s d)
    (keeps_any side s M H none (highest (s % 2) W) (turn most W s) (λ role. Taken d) refl k (λ u. nothing_said (stream_of u.opening u.words) d (not (is_some u.opening.whole)))))
took_step side most s M H W q d false is k =
    rw (counts_none s, plus_none M, plus_none H, highest_said (s % 2) W (Took q d) refl, others_stay most W (Took q d) q s (same_id q) is) k

pub job_step : (side : Side) (most s : ℕ) (M H : Counts) (W : List Mark) → At side most s M H W → Went side most s M H W [] [] (TookJob ∷ [])
job_step side most s M H W k = rw (counts_none s, plus_none M, plus_none H, highest_said (s % 2) W TookJob refl, turn_job most W s) k

pub pushed_step : (side : Side) (most s : ℕ) (M H : Counts) (W : List Mark) (metadata : List ℕ) → At side most s M H W → Went side most s M H W [] [] (Pushed metadata ∷ [])
pushed_step side most s M H W metadata k = rw (counts_none s, plus_none M, plus_none H, highest_said (s % 2) W (Pushed metadata) refl, turn_pushed most W metadata s) k

-- ---- the peer's steps

pub got_step : (side : Side) (most s : ℕ) (M H : Counts) (W : List Mark) (q : ℕ) (step : Step) (hs : List Frame) (h : Bool → Counts) (b : Bool) → (q == s) ≡ b → counts s hs ≡ h b → h false ≡ none → (h true).parts ≡ 0
    → ((u : Turn) → Adds (stream_of u.opening u.words) (Said (other u.opening.role) step) (not (is_some u.opening.whole)) none (h true)) → At side most s M H W → Went side most s M H W [] hs (Got q step ∷ [])
got_step side most s M H W q step hs h true is e zero parts adds k =
    let same : q ≡ s = eqb-true q s is in
    subst (λ (i : ℕ). Went side most s M H W [] hs (Got i step ∷ [])) (sym same)
    (rw (counts_none s, e, highest_said (s % 2) W (Got s step) refl, turn_got most W s step)
    (keeps_any side s M H (h true) (highest (s % 2) W) (turn most W s) (λ role. Said (other role) step) parts k adds))
got_step side most s M H W q step hs h false is e zero parts adds k =
    rw (counts_none s, e, zero, plus_none M, plus_none H, highest_said (s % 2) W (Got q step) refl, others_stay most W (Got q step) q s (same_id q) is) k

-- ---- requests

pub higher_keeps : (p q h : ℕ) → h ≤ higher p q h
higher_keeps p q h = elim (q % 2 == p) as (λ v. h ≤ cond v (max q h) h) [ true ↦ omega arith | false ↦ omega arith ]

pub higher_reaches : (s h : ℕ) → s ≤ higher (s % 2) s h
higher_reaches s h = rw (same_id (s % 2)) (omega arith)

pub bare_at : (side : Side) (most s : ℕ) (M H : Counts) (W : List Mark) → highest (s % 2) W < s → At side most s M H W → Bare s M H (highest (s % 2) W)
bare_at side most s M H W above k = subst (Keeps side s M H (highest (s % 2) W)) (fresh most W s above) k

own_here : (side : Side) (most s mtu : ℕ) (M H : Counts) (W : List Mark) (kind : Kind) (initial : Option ℕ) (message : Message) (complete : Bool) → highest (s % 2) W < s → is_own_parity side s ≡ true → At side most s M H W
    → Went side most s M H W (in_fragments mtu (request_frame s kind initial message complete)) [] (Opens s (ours kind initial message complete) ∷ [])
own_here side most s mtu M H W kind initial message complete above own k =
    let fs = in_fragments mtu (request_frame s kind initial message complete) in
    let c = request_counted s mtu (record { stream = s; kind = kind; follows = false; complete = complete; initial = initial; message = message }) in
    let one = same_id s in
    let a : OwnRequest kind (or_zero initial) (counts s fs) = record { given = c.given ∙ rw one refl; without = c.without ∙ rw one refl; ended = c.ended } in
    let high = highest (s % 2) W in
    rw (counts_none s, turn_opened most W s (ours kind initial message complete) above)
    (keeps_first side s (plus M (counts s fs)) (plus H none) (highest (s % 2) (Opens s (ours kind initial message complete) ∷ W)) (ours kind initial message complete)
    (own_opens side s high M H (counts s fs) kind initial message complete (bare_at side most s M H W above k) a own))

own_elsewhere : (side : Side) (most s q mtu : ℕ) (M H : Counts) (W : List Mark) (kind : Kind) (initial : Option ℕ) (message : Message) (complete : Bool) → (q == s) ≡ false → At side most s M H W
    → Went side most s M H W (in_fragments mtu (request_frame q kind initial message complete)) [] (Opens q (ours kind initial message complete) ∷ [])
own_elsewhere side most s q mtu M H W kind initial message complete apart k =
    let r : Request = record { stream = q; kind = kind; follows = false; complete = complete; initial = initial; message = message } in
    let o = ours kind initial message complete in
    let high = highest (s % 2) W in
    rw (counts_none s, elsewhere_none s mtu r apart, plus_none M, highest_opens (s % 2) W q o, others_stay most W (Opens q o) q s (same_id q) apart)
    (keeps_idle side s M H none high (higher (s % 2) q high) (turn most W s) (higher_keeps (s % 2) q high) refl k)

pub own_request : (side : Side) (most s q mtu : ℕ) (M H : Counts) (W : List Mark) (kind : Kind) (initial : Option ℕ) (message : Message) (complete b : Bool) → (q == s) ≡ b → highest (q % 2) W < q → is_own_parity side q ≡ true
    → At side most s M H W → Went side most s M H W (in_fragments mtu (request_frame q kind initial message complete)) [] (Opens q (ours kind initial message complete) ∷ [])
own_request side most s q mtu M H W kind initial message complete true is above own k =
    let same : q ≡ s = eqb-true q s is in
    subst (λ (i : ℕ). highest (i % 2) W < i → is_own_parity side i ≡ true → Went side most s M H W (in_fragments mtu (request_frame i kind initial message complete)) [] (Opens i (ours kind initial message complete) ∷ []))
    (sym same) (λ above own. own_here side most s mtu M H W kind initial message complete above own k) above own
own_request side most s q mtu M H W kind initial message complete false is above own k = own_elsewhere side most s q mtu M H W kind initial message complete is k

-- an ERROR says nothing that is summed
pub away_none : (s q : ℕ) (word : Option (List ℕ)) → counts s (turned_away_with q word) ≡ none
away_none s q None = counts_none s
away_none s q (Some word) = counts_one s (turned_away q word)

parts_of : (follows : Bool) (m : Message) (complete : Bool) → not (is_some (whole_in follows m complete)) ≡ follows
parts_of true m complete = refl
parts_of false m complete = refl

asked_counts : (s : ℕ) (r : Request) → (r.stream == s) ≡ true → PeersRequest r.kind (or_zero r.initial) (not (is_some (whole_in r.follows r.message r.complete))) (counts s (frame.Request r ∷ []))
asked_counts s r is =
    let one = counts_one s (frame.Request r) in
    record {
      given = ap (λ (c : Counts). c.given) one ∙ rw is refl;
      without = ap (λ (c : Counts). c.without) one ∙ rw is refl;
      parts_are = ap (λ (c : Counts). c.parts) one ∙ rw (is, parts_of r.follows r.message r.complete) refl;
    }

asked_none : (s : ℕ) (r : Request) → (r.stream == s) ≡ false → counts s (frame.Request r ∷ []) ≡ none
asked_none s r apart = counts_one s (frame.Request r) ∙ rw apart refl

-- one that is admitted or not
admitted_or : (side : Side) (s high high' : ℕ) (M H : Counts) (r : Request) (b : Bool) → (r.stream == s) ≡ true → Bare s M H high → high < s → s ≤ high' → is_own_parity side s ≡ false
    → Keeps side s (plus M none) (plus H (counts s (frame.Request r ∷ []))) high' (cond b (Some (record { opening = theirs r.kind r.initial (whole_in r.follows r.message r.complete); words = [] })) None)
admitted_or side s high high' M H r true is bare above used own =
    let whole = whole_in r.follows r.message r.complete in
    keeps_first side s (plus M none) (plus H (counts s (frame.Request r ∷ []))) high' (theirs r.kind r.initial whole)
    (peer_opens side s high M H (counts s (frame.Request r ∷ [])) r.kind r.initial whole bare above (asked_counts s r is) own)
admitted_or side s high high' M H r false is bare above used own = rw (plus_none M) (keeps_used side s M H (counts s (frame.Request r ∷ [])) high high' used bare)

asked_here : (side : Side) (most s : ℕ) (M H : Counts) (W : List Mark) (r : Request) (covered : Bool) (new : List Frame) → (r.stream == s) ≡ true → highest (s % 2) W < s → is_own_parity side s ≡ false → counts s new ≡ none
    → At side most s M H W → r.stream ≡ s → Went side most s M H W new (frame.Request r ∷ []) (heard (request_in covered r) ∷ [])
asked_here side most s M H W r true new is above own away k same =
    let o = theirs r.kind r.initial (whole_in r.follows r.message r.complete) in
    subst (λ (i : ℕ). Keeps side s (plus M (counts s new)) (plus H (counts s (frame.Request r ∷ []))) (highest (s % 2) (Opens i o ∷ W)) (turn most (Opens i o ∷ W) s)) (sym same)
    (rw (away, highest_opens (s % 2) W s o, turn_opened most W s o above)
    (admitted_or side s (highest (s % 2) W) (higher (s % 2) s (highest (s % 2) W)) M H r (is_admitted (ltb (live most W) most) o) is (bare_at side most s M H W above k) above (higher_reaches s (highest (s % 2) W)) own))
asked_here side most s M H W r false new is above own away k same =
    subst (λ (i : ℕ). Keeps side s (plus M (counts s new)) (plus H (counts s (frame.Request r ∷ []))) (highest (s % 2) (Passed i ∷ W)) (turn most (Passed i ∷ W) s)) (sym same)
    (rw (away, plus_none M, highest_passed (s % 2) W s, turn_passed most W s s, fresh most W s above)
    (keeps_used side s M H (counts s (frame.Request r ∷ [])) (highest (s % 2) W) (higher (s % 2) s (highest (s % 2) W)) (higher_reaches s (highest (s % 2) W)) (bare_at side most s M H W above k)))

asked_elsewhere : (side : Side) (most s : ℕ) (M H : Counts) (W : List Mark) (r : Request) (covered : Bool) (new : List Frame) → (r.stream == s) ≡ false → counts s new ≡ none
    → At side most s M H W → Went side most s M H W new (frame.Request r ∷ []) (heard (request_in covered r) ∷ [])
asked_elsewhere side most s M H W r true new apart away k =
    let o = theirs r.kind r.initial (whole_in r.follows r.message r.complete) in
    let high = highest (s % 2) W in
    rw (away, asked_none s r apart, plus_none M, highest_opens (s % 2) W r.stream o, others_stay most W (Opens r.stream o) r.stream s (same_id r.stream) apart)
    (keeps_idle side s M H none high (higher (s % 2) r.stream high) (turn most W s) (higher_keeps (s % 2) r.stream high) refl k)
asked_elsewhere side most s M H W r false new apart away k =
    let high = highest (s % 2) W in
    rw (away, asked_none s r apart, plus_none M, highest_passed (s % 2) W r.stream, turn_passed most W r.stream s)
    (keeps_idle side s M H none high (higher (s % 2) r.stream high) (turn most W s) (higher_keeps (s % 2) r.stream high) refl k)

pub asked_request : (side : Side) (most s : ℕ) (M H : Counts) (W : List Mark) (r : Request) (covered b : Bool) (new : List Frame) → (r.stream == s) ≡ b → highest (r.stream % 2) W < r.stream → is_own_parity side r.stream ≡ false
    → counts s new ≡ none → At side most s M H W → Went side most s M H W new (frame.Request r ∷ []) (heard (request_in covered r) ∷ [])
asked_request side most s M H W r covered true new is above own away k =
    let same : r.stream ≡ s = eqb-true r.stream s is in
    asked_here side most s M H W r covered new is (subst (λ (i : ℕ). highest (i % 2) W < i) same above) (subst (λ (i : ℕ). is_own_parity side i ≡ false) same own) away k same
asked_request side most s M H W r covered false new is above own away k = asked_elsewhere side most s M H W r covered new is away k
