-- What a carrier moves between its pump and a ring, and what that keeps. Entries stand newest first.
use Rattle.std.specs.Prelude.{◌≡◌, ℕ, Bool, true, false, List, [], ◌∷◌, ◌++◌}
use Rattle.rs_wire.specs.declared.settings.Settings.{Settings}
use Rattle.outside.specs.Links.{Shown}
use Rattle.tape.specs.Told.{entry_of}
use Rattle.tape.specs.declared.answer.Answer.{Answer}
use Rattle.tape.specs.declared.entry.Entry.{Entry}
use Rattle.tape.specs.declared.event.Event.{Event}
use Rattle.session_model.specs.Answers.{answer_to}
use Rattle.conn_shared.specs.Members.{Follows, Knowledge}
use Rattle.link_model.specs.Carrying.{Between}
use Rattle.pump.specs.Halves.{and_given, and_taken}
use Rattle.pump.specs.Turns.{Arrives, GoesOn, IsKept, Names}
use Rattle.ring.specs.declared.item.Mark.{Mark}
use Rattle.ring.specs.declared.item.Mark.TheVariants as mark
use Rattle.ring.specs.declared.item.Item.{Item}
use Rattle.ring.specs.declared.item.Item.TheVariants as item
use Rattle.ring.specs.Parts.{bytes_of}

-- Bytes were drawn and pushed: what is kept of a link is kept of it with these bytes given.
pub record HasGiven (me me' : Knowledge) (b b' : Between) (old new : List Item) : Type 0 where
  pub piece : List ℕ
  pub sent : new ≡ old ++ bytes_of piece
  pub conn : b'.conn ≡ b.conn
  pub max_in : b'.max_in ≡ b.max_in
  -- this caller added nothing but draws there
  pub goes : GoesOn (Names b.conn) me me'.front
  pub kept : (s : Shown) → IsKept me s b → IsKept me' (and_given s piece) b'

-- What stood in front was brought: what is kept of a link is kept.
pub record HasHeard (me me' : Knowledge) (b b' : Between) : Type 0 where
  pub conn : b'.conn ≡ b.conn
  pub max_in : b'.max_in ≡ b.max_in
  pub left : b'.left ≡ b.left
  -- this caller added nothing but what came there
  pub goes : GoesOn (Arrives b.conn) me me'.front
  pub kept : (s : Shown) → IsKept me s b → IsKept me' s b'

-- Bytes were read up to a mark, and brought: what is kept of a link is kept of it with these bytes taken.
pub record HasTaken (me me' : Knowledge) (b b' : Between) (m : Mark) (old new : List Item) : Type 0 where
  pub bytes : List ℕ
  pub read : new ≡ (old ++ bytes_of bytes) ++ item.Mark m ∷ []
  pub conn : b'.conn ≡ b.conn
  pub max_in : b'.max_in ≡ b.max_in
  pub left : b'.left ≡ b.left
  -- this caller added nothing but what came there
  pub goes : GoesOn (Arrives b.conn) me me'.front
  pub kept : (s : Shown) → IsKept me s b → IsKept me' (and_taken s bytes) b'

-- Bytes were read up to a mark, and not brought.
pub record HasLost (b b' : Between) (m : Mark) (old new : List Item) : Type 0 where
  pub bytes : List ℕ
  pub read : new ≡ (old ++ bytes_of bytes) ++ item.Mark m ∷ []
  pub conn : b'.conn ≡ b.conn
  pub max_in : b'.max_in ≡ b.max_in
  pub left : b'.left ≡ b.left
  pub kept : (me : Knowledge) (s : Shown) → IsKept me s b → IsKept me (and_taken s bytes) b'

-- Such an event of this caller was so answered: its entry is the newest.
pub record HasTold (g : Settings) (me me' : Knowledge) (e : Event) (a : Answer) : Type 0 where
  pub before : List Entry
  pub follows : Follows me.names me.front before
  pub is : me'.front ≡ entry_of me.number e a ∷ before
  pub right : a ≡ answer_to g before e

-- the mark between two halves of a round, where something came or not
abbrev pub mark_for : Bool → Mark
mark_for true = mark.More
mark_for false = mark.Line
