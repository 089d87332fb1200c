-- The routes of the program's handlers.
use Rattle.std.specs.Prelude.{List, [], ◌∷◌, codes}
use Rattle.rs_wire.specs.declared.words.Kind.TheVariants as kind
use Rattle.handlers.specs.declared.law.Law.TheVariants as law
use Rattle.handlers.specs.Listed.{Listed}

-- a name, the kind of the requests, and what the handler gives
abbrev pub stored_routes : List Listed
stored_routes =
    record { name = codes "echo"; kind = kind.Response; law = law.Echo }
    ∷ record { name = codes "upper"; kind = kind.Channel; law = law.Upper }
    ∷ record { name = codes "count"; kind = kind.Stream; law = law.Count }
    ∷ record { name = codes "drop"; kind = kind.Fnf; law = law.Drop }
    ∷ []
