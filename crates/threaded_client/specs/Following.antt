-- The lines that the client followed so far. Entries and lines stand oldest first.
use Rattle.std.specs.Prelude.{◌≡◌, ◌⊎◌, ℕ, List, [], ◌∷◌, Option, Some, None}
use Rattle.tape.specs.declared.entry.Entry.{Entry}
use Rattle.cable_script.specs.declared.line.Line.{Line}
use Rattle.threaded_model.specs.Threaded.{act, joins_after}

-- each entry is what the next line that acts does, where the first connection joins the ends at first, and the last one once they are done
unfoldable pub ActsTo : Option ℕ → List Line → List Entry → Option ℕ → Type 0
ActsTo on [] entries to = (entries ≡ []) × (to ≡ on)
ActsTo on (l ∷ lines) entries to =
    ((act on l ≡ None) × ActsTo on lines entries to)
    ⊎ ((x : Entry) × (rest : List Entry) × (entries ≡ x ∷ rest) × (act on l ≡ Some x.event) × ActsTo (joins_after on l x.answer) lines rest to)
