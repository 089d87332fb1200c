-- A request of this end's that is not refused finds a place.
use Rattle.std.proofs.Common.{◌≡◌, ◌≤◌, ◌<◌, ◌&&◌, ◌==◌, ℕ, Bool, true, false, cond, not, Option, Some, None, refl, subst, arith}
use Rattle.std.proofs.lemmas.Bool.Decides.{nat_tests}
use Rattle.std.specs.Option.{option_or}
use Rattle.rs_wire.specs.declared.words.Kind.{Kind}
use Rattle.rs_wire.specs.declared.message.Message.{Message}
use Rattle.rs_wire.specs.declared.call.Call.{Call}
use Rattle.rs_wire.specs.declared.call.Call.TheVariants as call
use Rattle.rs_wire.specs.declared.fault.Refusal.{Refusal}
use Rattle.rs_wire.specs.declared.fault.Refusal.TheVariants as refusal
use Rattle.stream_model.specs.declared.stream.Limits.{Limits}
use Rattle.stream_model.specs.Turns.{is_fnf}
use Rattle.stream_model.specs.Known.{Known}
use Rattle.stream_model.specs.Refused.{refused_by}

last_none : (a b c d : Option Refusal) → option_or a (option_or b (option_or c d)) ≡ None → d ≡ None
last_none None None None d h = h
last_none None None (Some r) d h = absurd (cc)
last_none None (Some r) c d h = absurd (cc)
last_none (Some r) b c d h = absurd (cc)

not_full : (fnf full : Bool) (r : Refusal) → cond (not fnf && full) (Some r) None ≡ None → fnf ≡ false → full ≡ false
not_full false false r h is = refl
not_full false true r h is = absurd (cc)
not_full true full r h is = absurd (cc)

pub finds_place : (l : Limits) (t : Known) (c : Call) (kind : Kind) (initial : Option ℕ) (m : Message) (complete : Bool) → c ≡ call.Request kind initial m complete → refused_by l t c ≡ None → t.live ≤ l.max_streams → is_fnf kind ≡ false → t.live < l.max_streams
finds_place l t c kind initial m complete is none le fnf =
    let none' : refused_by l t (call.Request kind initial m complete) ≡ None = subst (λ c. refused_by l t c ≡ None) is none in
    let apart = not_full (is_fnf kind) (t.live == l.max_streams) (refusal.TooManyStreams l.max_streams) (last_none None None _ _ none') fnf in
    grind (arith, nat_tests)
