-- What holds where a call is not refused: each row of the refusals alone.
use Rattle.std.proofs.Common.{◌≡◌, ◌≤◌, ◌<◌, ◌+◌, ℕ, Bool, true, false, not, cond, List, [], ◌∷◌, Option, Some, None, refl, arith}
use Rattle.std.proofs.lemmas.Grind.{common_steps}
use Rattle.std.proofs.lemmas.Bool.Decides.{nat_tests}
use Rattle.std.specs.Prelude.{nat_lt}
use Rattle.std.specs.Option.{option_or}
use Rattle.rs_wire.specs.declared.fault.Refusal.{Refusal}
use Rattle.rs_wire.specs.declared.settings.Settings.{Settings}
use Rattle.rs_wire.specs.declared.call.Call.{Call}
use Rattle.rs_frame.specs.declared.frame.Frame.{Frame}
use Rattle.position.specs.Boundaries.{pos}
use Rattle.stream_model.specs.declared.stream.Stream.{Stream as Kept}
use Rattle.stream_model.specs.Known.{Known, limits_of, highest_at}
use Rattle.stream_model.specs.Refused.{by_state, by_credit, by_ids, by_live, on_stream, refused_by}
use Rattle.session_model.specs.Answers.{Facts, by_agreement, by_closed, by_lease, by_size, by_sending, find_full, refused_beside, refused_call, refused_frames, size_in}

-- where neither of two refusals holds, each is none
pub neither : {X : Type 0} (a b : Option X) → option_or a b ≡ None → (a ≡ None) × (b ≡ None)
neither None b none = (refl, none)
neither (Some x) b none = absurd (cc)

-- each row of the refusals is passed
pub record Unrefused (g : Settings) (t : Facts) (asked : Call) : Type 0 where
  pub open_session : by_closed t asked ≡ None
  pub state : by_state t.streams asked ≡ None
  pub agreement : by_agreement g t asked ≡ None
  pub size : by_size g asked ≡ None
  pub credit : by_credit t.streams asked ≡ None
  pub lease : by_lease g t asked ≡ None
  pub ids : by_ids (limits_of g) t.streams asked ≡ None
  pub live : by_live (limits_of g) t.streams asked ≡ None
  pub sending : by_sending g t asked ≡ None

pub unrefused : (g : Settings) (t : Facts) (asked : Call) → refused_call g t asked ≡ None → Unrefused g t asked
unfolding refused_call
unrefused g t asked none =
    let a = neither (by_closed t asked) _ none in
    let b = neither (by_state t.streams asked) _ a.1 in
    let agreed = neither (by_agreement g t asked) _ b.1 in
    let c = neither (by_size g asked) _ agreed.1 in
    let d = neither (by_credit t.streams asked) _ c.1 in
    let leased = neither (by_lease g t asked) _ d.1 in
    let e = neither (by_ids (limits_of g) t.streams asked) _ leased.1 in
    let f = neither (by_live (limits_of g) t.streams asked) _ e.1 in
    record { open_session = a.0; state = b.0; agreement = agreed.0; size = c.0; credit = d.0; lease = leased.0; ids = e.0; live = f.0; sending = f.1 }

-- no row of the streams refuses it
pub streams_allow : (g : Settings) (t : Facts) (asked : Call) → Unrefused g t asked → refused_by (limits_of g) t.streams asked ≡ None
streams_allow g t asked u = let state = u.state in let credit = u.credit in let ids = u.ids in let live = u.live in grind (arith, common_steps)

-- and the other way round
pub refuses_none : (g : Settings) (t : Facts) (asked : Call) → Unrefused g t asked → refused_call g t asked ≡ None
unfolding refused_call
refuses_none g t asked u =
    let a = u.open_session in
    let b = u.state in
    let agreed = u.agreement in
    let c = u.size in
    let d = u.credit in
    let leased = u.lease in
    let e = u.ids in
    let f = u.live in
    let h = u.sending in
    grind (arith, common_steps)

-- ---- the rows

passed : {X : Type 0} (b : Bool) (x : X) (next : Option X) → cond b (Some x) next ≡ None → (b ≡ false) × (next ≡ None)
passed true x next none = absurd (cc)
passed false x next none = (refl, none)

-- what a call sends is small
pub size_fits : (g : Settings) (asked : Call) → by_size g asked ≡ None → size_in asked ≤ g.max_payload
size_fits g asked none = let p = passed (nat_lt g.max_payload (size_in asked)) _ None none in grind (arith, nat_tests)

-- a frame of the connection alone can be sent
pub record CanSendBeside (g : Settings) (t : Facts) (f : Frame) : Type 0 where
  pub carries : t.carrying ≡ true
  pub place : find_full g t (f ∷ []) ≡ false

pub can_send_beside : (g : Settings) (t : Facts) (f : Frame) → refused_beside g t f ≡ None → CanSendBeside g t f
can_send_beside g t f none =
    let a = passed (not t.carrying) _ _ none in
    let b = passed (find_full g t (f ∷ [])) _ _ a.1 in
    let carries = a.0 in
    record { carries = grind (arith, nat_tests); place = b.0 }

-- frames can be made
pub record CanSend (g : Settings) (t : Facts) (fs : List Frame) : Type 0 where
  pub begun : t.begun ≡ true
  pub place : find_full g t fs ≡ false
  pub within : t.made.position + pos fs ≤ g.top_position

pub can_send : (g : Settings) (t : Facts) (fs : List Frame) → refused_frames g t fs ≡ None → CanSend g t fs
can_send g t fs none =
    let a = passed (not t.begun) _ _ none in
    let b = passed (find_full g t fs) _ _ a.1 in
    let c = passed (nat_lt g.top_position (t.made.position + pos fs)) _ _ b.1 in
    let begun = a.0 in
    let below = c.0 in
    record { begun = grind (arith, nat_tests); place = b.0; within = grind (arith, nat_tests) }

-- the stream that a call names is open, and what else is asked of it holds
pub record Names (t : Known) (s : ℕ) (more : Kept → Option Refusal) : Type 0 where
  pub above : 0 < s
  pub below : s ≤ highest_at t s
  pub stream : Kept
  pub kept : t.kept s ≡ Some stream
  pub allowed : more stream ≡ None

names_kept : (t : Known) (s : ℕ) (more : Kept → Option Refusal) (k : Option Kept) → t.kept s ≡ k → 0 < s → s ≤ highest_at t s → on_stream t s more ≡ None → Names t s more
names_kept t s more k is above below none = grind (arith, common_steps)

pub names : (t : Known) (s : ℕ) (more : Kept → Option Refusal) → on_stream t s more ≡ None → Names t s more
names t s more none = grind (arith, common_steps)
