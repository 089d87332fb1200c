-- How often a call ticks, and with which moments. Entries stand newest first.
use Rattle.std.specs.Prelude.{◌≡◌, ◌≤◌, ◌+◌, ◌-◌, ◌^◌, ◌⊎◌, ◌==◌, ◌&&◌, ℕ, true, if◌then◌else◌, List, [], ◌∷◌, length, Option, Some, None, is_some}
use Rattle.std.specs.List.{AllByRecursion}
use Rattle.outside.specs.Causes.{IsMoment}
use Rattle.outside.specs.Links.{Shown}
use Rattle.tape.specs.declared.event.Event.{Event}
use Rattle.tape.specs.declared.event.Event.TheVariants as event
use Rattle.tape.specs.declared.entry.Entry.{Entry}
use Rattle.session_model.specs.Life.{openings}
use Rattle.call_model.specs.Order.{is_tick}

-- a Tick has a moment of the clock
abbrev pub HasMoment : Option (List ℕ) → Event → Type 0
HasMoment moments (event.Tick now) = IsMoment moments now
HasMoment moments _ = Unit {0}

abbrev pub AreMoments : Option (List ℕ) → List Entry → Type 0
AreMoments moments past = AllByRecursion (λ x. HasMoment moments x.event) past

-- how many Ticks stand after opening c and before the next one
unfoldable pub ticks_on : List Entry → ℕ → ℕ
ticks_on [] c = 0
ticks_on (x ∷ past) c = ticks_on past c + (if is_tick x.event && (openings past == c) then 1 else 0)

abbrev pub length_shown : Option (List ℕ) → ℕ
length_shown None = 0
length_shown (Some bytes) = length bytes

-- the lulls, the stalls, and the bytes given and taken
abbrev pub moved : Shown → ℕ
moved link = link.counts.lulls + link.counts.stalls + length_shown link.given + length_shown link.taken

-- a count of the link's lulls or of its stalls stands where a u64 ends
abbrev pub IsAtTop : Shown → Type 0
IsAtTop link = (2 ^ 64 - 1 ≤ link.counts.lulls) ⊎ (2 ^ 64 - 1 ≤ link.counts.stalls)

-- so many Ticks at most more than that, of a link that shows its bytes and whose counts are not at their end
abbrev pub HasFewTicks : ℕ → List Entry → Shown → ℕ → Type 0
HasFewTicks few past link c = is_some link.given ≡ true → is_some link.taken ≡ true → (ticks_on past c ≤ moved link + few) ⊎ IsAtTop link

-- two at most
abbrev pub IsTimely : List Entry → Shown → ℕ → Type 0
IsTimely past link c = HasFewTicks 2 past link c
