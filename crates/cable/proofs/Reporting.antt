-- What a report is made of.
use Rattle.std.proofs.lemmas.Grind.{common_steps}
use Rattle.std.proofs.Common.{◌≡◌, ℕ, Bool, List, [], ◌∷◌, ◌++◌, reverse, Some, subst, sym, arith}
use Rattle.std.specs.List.{AllByRecursion}
use Rattle.std.proofs.lemmas.List.{reverse-append, reverse-reverse}
use Rattle.rs_wire.specs.declared.words.Side.TheVariants as side
use Rattle.rs_wire.specs.declared.settings.Settings.{Settings}
use Rattle.tape.specs.declared.event.Event.{Event}
use Rattle.tape.specs.declared.entry.Entry.{Entry}
use Rattle.session_core.specs.Seen.{Seen, told_by}
use Rattle.session_model.specs.Legal.{Fair, IsFair}
use Rattle.cable.specs.Lines.{AreTellable, CanBeTold}
use Rattle.cable.specs.Report.{counts_of, report_of, told_lines}

fair_told : (g : Settings) (e : Event) → IsFair g e → CanBeTold e
fair_told g e h1 = grind (arith, common_steps)

all_fair : (g : Settings) (past : List Entry) → Fair g past → AreTellable past
unfolding Fair
all_fair g [] h = tt
all_fair g (x ∷ past) h = (fair_told g x.event h.1, all_fair g past h.0)

all_behind : {X : Type 0} (P : X → Type 0) (xs ys : List X) → AllByRecursion P xs → AllByRecursion P ys → AllByRecursion P (xs ++ ys)
all_behind P xs ys h1 h2 = grind (arith, common_steps)

all_back : {X : Type 0} (P : X → Type 0) (xs : List X) → AllByRecursion P xs → AllByRecursion P (reverse xs)
all_back {X} P [] h = tt
all_back {X} P (x ∷ xs) h = subst (AllByRecursion P) (sym (reverse-append (x ∷ []) xs)) (all_behind P (reverse xs) (x ∷ []) (all_back P xs h.1) (h.0, tt))

-- the entries of a session can be told
pub tellable : (g : Settings) (T : List Entry) → Fair g (reverse T) → AreTellable T
tellable g T h = subst AreTellable (reverse-reverse T) (all_back (λ (x : Entry). CanBeTold x.event) (reverse T) (all_fair g (reverse T) h))

-- what a tape tells is its entries
pub told_list : (tells : Bool) (past entries : List Entry) → told_by tells past ≡ Some entries → reverse entries ≡ past
told_list tells past entries h1 = grind (arith, common_steps, reverse-reverse)

four : (a b c d e u v w z : List ℕ) → b ≡ a ++ u → c ≡ b ++ v → d ≡ c ++ w → e ≡ d ++ z → e ≡ a ++ (u ++ (v ++ (w ++ z)))
four a b c d e u v w z h1 h2 h3 h4 = grind (arith, common_steps)

-- the four parts of a report
pub parts : (a b c d e : List ℕ) (client server : Seen) → b ≡ a ++ counts_of side.Client client.settings client.entries → c ≡ b ++ counts_of side.Server server.settings server.entries → d ≡ c ++ told_lines side.Client (told_by client.tells client.entries) → e ≡ d ++ told_lines side.Server (told_by server.tells server.entries) → e ≡ a ++ report_of client server
parts a b c d e client server p q r s = four a b c d e (counts_of side.Client client.settings client.entries) (counts_of side.Server server.settings server.entries) (told_lines side.Client (told_by client.tells client.entries)) (told_lines side.Server (told_by server.tells server.entries)) p q r s
