-- What was read is all of the input.
use Rattle.std.proofs.Common.{◌≡◌, ℕ, ◌≤◌, ◌+◌, List, [], ◌++◌, length, Option, Some, sym, ap, subst, ◌∙◌, append-nil, ⊎_elim, arith}
use Rattle.outside.specs.Streams.{ByteStream}
use Rattle.tape.specs.declared.entry.Entry.{Entry}
use Rattle.cable_script.specs.Scripted.{Scripted}
use Rattle.cable_script.specs.Script.{IsScript}
use Rattle.cable.specs.Shelves.{GotTapes, sides_by}
use Rattle.rsocket_run.specs.Run.{GotEnds}
use Rattle.rsocket_run.specs.declared.tasks.TheConstants.{READ_FOR_SCRIPT}
use Rattle.rsocket_run.specs.Streams.{IsReadTo}

-- what was read is the whole text, where it is below the limit
pub whole_text : (most : ℕ) (text bytes : List ℕ) (left : Option (List ℕ)) → IsReadTo most text bytes left → length bytes + 1 ≤ most → (text ≡ bytes) × (left ≡ Some [])
whole_text most text bytes left r short = ⊎_elim
    (λ none. (r.text_is ∙ ap (λ (x : List ℕ). bytes ++ x) none ∙ append-nil bytes, r.left_is ∙ ap Some none))
    (λ full. absurd (omega (arith, full, short)))
    r.to_the_end

pub script_read : (text bytes given : List ℕ) (left : Option (List ℕ)) (script : Scripted) → IsReadTo READ_FOR_SCRIPT text bytes left → given ≡ bytes → IsScript given script → (IsScript text script) × (left ≡ Some [])
script_read text bytes given left script r same is =
    let here : IsScript bytes script = subst (λ (t : List ℕ). IsScript t script) same is in
    let whole = whole_text READ_FOR_SCRIPT text bytes left r (omega (arith, here.short)) in
    (subst (λ (t : List ℕ). IsScript t script) (sym whole.0) here, whole.1)

-- the ends of a run of the script that was read
pub got_ends : (input : ByteStream) (bytes given : List ℕ) (left : Option (List ℕ)) (fresh : Option (List Entry)) (shelf shelf' : List (Option (List Entry))) (script : Scripted)
    → ((text : List ℕ) → input.told ≡ Some text → IsReadTo READ_FOR_SCRIPT text bytes left) → given ≡ bytes → IsScript given script → GotTapes (sides_by script.settings) fresh shelf shelf' → GotEnds input left fresh shelf shelf'
got_ends input bytes given left fresh shelf shelf' script whole same is got = record {
  script = script;
  to_its_end = λ text told. (script_read text bytes given left script (whole text told) same is).1;
  is_script = λ text told. (script_read text bytes given left script (whole text told) same is).0;
  got = got;
}
