-- What a member of a shared session knows, and how its front goes on. Entries stand newest first.
use Rattle.std.specs.Prelude.{◌≡◌, ℕ, Bool, ◌+◌, ◌⊎◌, ◌-◌, ◌^◌, List, [], ◌∷◌, ◌++◌, length, Option, None, Some}
use Rattle.rs_wire.specs.declared.settings.Settings.{Settings}
use Rattle.tape.specs.declared.entry.Entry.{Entry}
use Rattle.session_model.specs.Legal.{Fair, Legal}
use Rattle.conn_lock.specs.Callers.{IsOthers, Known, LockId, all_parts, calls}
use Rattle.conn_shared.specs.declared.line.Line.{Line}
use Rattle.conn_shared.specs.Lines.{entries_in, lines_with, settings_in, tells_in, who_of}

-- which shared session it is, and what never changes of the session
pub record SharedId : Type 0 where
  pub lock : LockId
  pub settings : Settings
  -- its tape tells its entries
  pub tells : Bool

-- what a member knows
pub record Knowledge : Type 0 where
  pub of : SharedId
  pub number : ℕ
  -- its number, and those of the members that were joined into it
  pub names : List ℕ
  pub parts : ℕ
  -- the entries of the session as far as it has seen them
  pub front : List Entry
  -- the greatest count of numbers drawn that it has found
  pub found : ℕ
  -- how many of its tries met a ticket that was drawn already
  pub misses : ℕ
  -- the ticket that was served when a try looked, until it draws one or misses it
  pub note : Option ℕ

-- the first member of a session, before anything happened
abbrev pub first_member : SharedId → Knowledge
first_member of = record {
  of = of;
  number = 0;
  names = 0 ∷ [];
  parts = all_parts;
  front = [];
  found = 1;
  misses = 0;
  note = None;
}

-- what a seat at the lock means to its member
abbrev pub knows : Known Line → Knowledge
knows s = record {
  of = record { lock = s.lock; settings = settings_in s.front; tells = tells_in s.front };
  number = s.number;
  names = s.names;
  parts = s.parts;
  front = entries_in s.front;
  found = s.found;
  misses = s.misses;
  note = s.note;
}

-- the seat has seen a session's first line, and then entries that the rules allow
pub record IsMember (s : Known Line) : Type 0 where
  pub lined : s.front ≡ lines_with (settings_in s.front) (tells_in s.front) (entries_in s.front)
  pub legal : Legal (settings_in s.front) (entries_in s.front)
  pub fair : Fair (settings_in s.front) (entries_in s.front)

-- the front went on by entries of others alone
abbrev pub Follows : List ℕ → List Entry → List Entry → Type 0
Follows names old new = (others : List Entry) × (new ≡ others ++ old) × IsOthers who_of names others

-- entries of this number alone were added
abbrev pub Gains : ℕ → List Entry → List Entry → Type 0
Gains number old new = (own : List Entry) × (new ≡ own ++ old) × (calls who_of number own ≡ length own)

-- the one front is where the other came from
abbrev pub Continues : List Entry → List Entry → Type 0
Continues old new = (later : List Entry) × (new ≡ later ++ old)

-- a member that got no turn: its try missed the next ticket, or the last ticket is served
abbrev pub IsTurnedAway : Knowledge → Knowledge → Type 0
IsTurnedAway old new =
    (new ≡ record old { misses = old.misses + 1; note = None })
    ⊎ (new ≡ record old { note = Some (2 ^ 64 - 1) })
