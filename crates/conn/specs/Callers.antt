-- What a caller knows, also in the middle of its call.
use Rattle.std.specs.Prelude.{false, [], Option, None, Some}
use Rattle.conn_shared.specs.Lines.{no_settings}
use Rattle.conn_shared.specs.Members.{Knowledge}

-- what is said of a caller in the middle of its call, when its member is away
abbrev pub nobody : Knowledge
nobody = record {
  of = record {
    lock = record { words = 0; slots = 0; views_name = 0; atom = 0; block = 0; offset = 0; slot_names = [] };
    settings = no_settings;
    tells = false;
  };
  number = 0;
  names = [];
  parts = 0;
  front = [];
  found = 0;
  misses = 0;
  note = None;
}

abbrev pub known_by : Option Knowledge → Knowledge
known_by None = nobody
known_by (Some k) = k

abbrev pub IsThere : Option Knowledge → Type 0
IsThere None = ⊥
IsThere (Some k) = Unit {0}
