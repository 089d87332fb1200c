-- What holds of the streams of an end whose rules were kept.
use Rattle.std.specs.Prelude.{◌≡◌, ◌≤◌, ◌*◌, ◌^◌, ℕ, ◌&&◌, ◌||◌, not, Bool, true, false, List, [], ◌∷◌, ◌++◌, Option, Some, length}
use Rattle.rs_wire.specs.declared.words.Way.{Way}
use Rattle.rs_wire.specs.declared.words.Way.TheVariants as way
use Rattle.rs_wire.specs.declared.delivery.Delivery.{Delivery}
use Rattle.rs_wire.specs.declared.delivery.Delivery.TheVariants as delivery
use Rattle.rs_wire.specs.declared.message.Message.{Message}
use Rattle.stream_model.specs.Marks.{Opening, Mark}
use Rattle.stream_model.specs.Turns.{Word, Said, Taken, Turn, over, ends, items, used, granted, delivered, taken, waiting, needs_credit, is_response, is_fnf, is_role, inbound}
use Rattle.stream_model.specs.Streams.{turn, live}

-- no more items than were granted
abbrev pub UsedWithinGranted : Turn → Type 0
UsedWithinGranted t = needs_credit t.opening.kind ≡ true → (w : Way) → used t.opening t.words w ≤ granted t.opening t.words w

-- a response carries at most one payload
abbrev pub OneResponse : Turn → Type 0
OneResponse t = is_response t.opening.kind ≡ true → length (items t.opening t.words way.Reply) ≤ 1

-- what was taken is a prefix of what was delivered, and the rest waits
abbrev pub TakenFirst : Turn → Type 0
TakenFirst t = taken t.words ++ waiting t.opening t.words ≡ delivered t.opening t.words

abbrev pub is_end : Delivery → Bool
is_end (delivery.Item message) = false
is_end d = true

-- only the last delivery may be an end
abbrev pub EndsLast : List Delivery → Type 0
EndsLast [] = Unit {0}
EndsLast (d ∷ []) = Unit {0}
EndsLast (d ∷ e ∷ ds) = (is_end d ≡ false) × EndsLast (e ∷ ds)

abbrev pub OneEnd : Turn → Type 0
OneEnd t = EndsLast (delivered t.opening t.words)

-- ---- what is delivered, in full

-- an own word ended the way that this end receives
abbrev pub ends_own : Opening → List Word → Word → Bool
ends_own o xs (Said by step) = not (over o xs (inbound o.role)) && (is_role o.role by && ends o.kind (inbound o.role) (Said by step))
ends_own o xs (Taken d) = false

unfoldable pub own_end : Opening → List Word → Bool
own_end o [] = false
own_end o (x ∷ xs) = own_end o xs || ends_own o xs x

-- after it nothing waits, and so nothing more is taken
abbrev pub DropsAtOwnEnd : Turn → Type 0
DropsAtOwnEnd t = own_end t.opening t.words ≡ true → waiting t.opening t.words ≡ []

abbrev pub items_of : List Delivery → List Message
items_of [] = []
items_of (delivery.Item m ∷ ds) = m ∷ items_of ds
items_of (d ∷ ds) = items_of ds

abbrev pub has_end : List Delivery → Bool
has_end [] = false
has_end (d ∷ ds) = is_end d || has_end ds

-- until then all items of the way are delivered, in their order
abbrev pub ItemsDelivered : Turn → Type 0
ItemsDelivered t = own_end t.opening t.words ≡ false → items_of (delivered t.opening t.words) ≡ items t.opening t.words (inbound t.opening.role)

-- and an end exactly where the way is over; a fire-and-forget delivers none
abbrev pub EndDelivered : Turn → Type 0
EndDelivered t = is_fnf t.opening.kind ≡ false → own_end t.opening t.words ≡ false → has_end (delivered t.opening t.words) ≡ over t.opening t.words (inbound t.opening.role)

pub record Laws (t : Turn) : Type 0 where
  pub credit : UsedWithinGranted t
  pub response : OneResponse t
  pub taken : TakenFirst t
  pub one_end : OneEnd t
  pub dropped : DropsAtOwnEnd t
  pub items : ItemsDelivered t
  pub ended : EndDelivered t

-- they hold of every stream that was admitted
abbrev pub EachStream : ℕ → List Mark → Type 0
EachStream most seen = (s : ℕ) (t : Turn) → turn most seen s ≡ Some t → Laws t

-- a way of a stream is over
abbrev pub IsOver : Option Turn → Way → Type 0
IsOver t w = (u : Turn) × (t ≡ Some u) × (over u.opening u.words w ≡ true)

-- a way that is over stays over, whatever is seen next
abbrev pub OverForGood : ℕ → List Mark → Mark → Type 0
OverForGood most seen m = (s : ℕ) (w : Way) → IsOver (turn most seen s) w → IsOver (turn most (m ∷ seen) s) w

-- not more streams are open than may be
abbrev pub LiveWithin : ℕ → List Mark → Type 0
LiveWithin most seen = live most seen ≤ most

-- each mark grants fewer than 2 ^ 31 items
abbrev pub GrantedWithin : ℕ → List Mark → Type 0
GrantedWithin most seen = (s : ℕ) (t : Turn) (w : Way) → turn most seen s ≡ Some t → granted t.opening t.words w ≤ 2 ^ 31 * length seen
