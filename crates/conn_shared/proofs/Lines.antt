-- The lines under the lock, and the entries in them.
use Rattle.std.proofs.lemmas.Bool.Decides.{nat_tests}
use Rattle.std.proofs.Common.{◌≡◌, ◌≤◌, ◌<◌, ℕ, suc, Bool, true, false, cond, List, [], ◌∷◌, ◌++◌, length, nat_lt, refl, sym, ap, ◌∙◌, subst, arith, append-nil, append_assoc}
use Rattle.std.proofs.lemmas.List.{length-append}
use Rattle.rs_wire.specs.declared.settings.Settings.{Settings}
use Rattle.tape.specs.declared.entry.Entry.{Entry}
use Rattle.session_core.specs.Seen.{Seen}
use Rattle.conn_lock.specs.Callers.{Adds, IsOthers, calls, longer}
use Rattle.conn_lock.specs.Callers as lock
use Rattle.conn_lock.proofs.Totals.{calls_append}
use Rattle.conn_shared.specs.declared.line.Line.{Line}
use Rattle.conn_shared.specs.declared.line.Line.TheVariants as line
use Rattle.conn_shared.specs.Members.{Follows, Gains}
use Rattle.conn_shared.specs.Lines.{entries_in, lines_of, lines_with, noted, number_of, settings_in, tells_in, who_of}

pub entries-append : (ls ms : List Line) → entries_in (ls ++ ms) ≡ entries_in ms ++ entries_in ls
entries-append [] ms = sym (append-nil (entries_in ms))
entries-append (line.Began g tells ∷ ls) ms = entries-append ls ms
entries-append (line.Noted e ∷ ls) ms = ap (λ es. es ++ e ∷ []) (entries-append ls ms) ∙ append_assoc (entries_in ms) (entries_in ls) (e ∷ [])

pub entries-noted : (past : List Entry) → entries_in (noted past) ≡ past
entries-noted [] = refl
entries-noted (e ∷ past) = entries-append (noted past) (line.Noted e ∷ []) ∙ ap (λ es. e ∷ es) (entries-noted past)

pub noted-append : (later past : List Entry) → noted (later ++ past) ≡ noted past ++ noted later
noted-append [] past = sym (append-nil (noted past))
noted-append (e ∷ later) past = ap (λ ls. ls ++ line.Noted e ∷ []) (noted-append later past) ∙ append_assoc (noted past) (noted later) (line.Noted e ∷ [])

calls-noted : (n : ℕ) (past : List Entry) → calls number_of n (noted past) ≡ calls who_of n past
calls-noted n [] = refl
calls-noted n (e ∷ past) = let h = calls-noted n past in let sum = calls_append number_of n (noted past) (line.Noted e ∷ []) in omega arith

length-noted : (past : List Entry) → length (noted past) ≡ length past
length-noted [] = refl
length-noted (e ∷ past) = let h = length-noted past in let sum = length-append (noted past) (line.Noted e ∷ []) in omega arith

calls-few : (n : ℕ) (ls : List Line) → calls who_of n (entries_in ls) ≤ calls number_of n ls
calls-few n [] = omega arith
calls-few n (line.Began g tells ∷ ls) = let h = calls-few n ls in omega arith
calls-few n (line.Noted e ∷ ls) = let h = calls-few n ls in let sum = calls_append who_of n (entries_in ls) (e ∷ []) in omega arith

-- no name of the caller's is in lines of others, and so in no entry of them
others_in : (names : List ℕ) (ls : List Line) → IsOthers number_of names ls → IsOthers who_of names (entries_in ls)
others_in names ls others = λ x named. let few = calls-few x ls in let none = others x named in omega arith

-- lines of others add entries of others
pub follows_in : (g : Settings) (tells : Bool) (names : List ℕ) (past : List Entry) (ls : List Line) → lock.Follows number_of names (lines_with g tells past) ls → Follows names past (entries_in ls)
follows_in g tells names past ls follows = (
  entries_in follows.0,
  ap entries_in follows.1 ∙ (entries-append (noted past) follows.0 ∙ ap (λ es. entries_in follows.0 ++ es) (entries-noted past)),
  others_in names follows.0 follows.2,
)

-- a session that is found after lines of a session
pub record WentOn (g : Settings) (tells : Bool) (names : List ℕ) (past : List Entry) (s : Seen) : Type 0 where
  pub settings : s.settings ≡ g
  pub tells_same : s.tells ≡ tells
  pub follows : Follows names past s.entries

pub went_on : (g : Settings) (tells : Bool) (names : List ℕ) (past : List Entry) (s : Seen) → lock.Follows number_of names (lines_with g tells past) (lines_of s) → WentOn g tells names past s
went_on g tells names past s follows = record {
  settings = ap settings_in follows.1;
  tells_same = ap tells_in follows.1;
  follows = subst (Follows names past) (entries-noted s.entries) (follows_in g tells names past (lines_of s) follows);
}

pub same_entries : (g : Settings) (tells : Bool) (past : List Entry) (s : Seen) → lines_of s ≡ lines_with g tells past → s.entries ≡ past
same_entries g tells past s is = sym (entries-noted s.entries) ∙ (ap entries_in is ∙ entries-noted past)

-- the first line carries the number 0
pub first_line : (g : Settings) (tells : Bool) (n : ℕ) → 0 < n → calls number_of n (lines_with g tells []) ≡ 0
first_line g tells n some = grind (arith, nat_tests)

-- the lines gain what the entries gain
pub gains_lines : (g : Settings) (tells : Bool) (n : ℕ) (old new : List Entry) → Gains n old new → Adds number_of n (lines_with g tells old) (lines_with g tells new)
gains_lines g tells n old new own = (
  noted own.0,
  ap (lines_with g tells) own.1 ∙ ap (λ ls. line.Began g tells ∷ ls) (noted-append own.0 old),
  calls-noted n own.0 ∙ (own.2 ∙ sym (length-noted own.0)),
)

pub unused_in : (ls : List Line) (n : ℕ) → calls number_of n ls ≡ 0 → calls who_of n (entries_in ls) ≡ 0
unused_in ls n none = let few = calls-few n ls in omega arith

less_same : (a b : ℕ) → nat_lt (suc a) (suc b) ≡ nat_lt a b
less_same a b = grind (arith, nat_tests)

longer_lines : (g : Settings) (tells : Bool) (xs ys : List Entry) → longer (lines_with g tells xs) (lines_with g tells ys) ≡ lines_with g tells (longer xs ys)
longer_lines g tells xs ys = ap pick (less_same (length (noted xs)) (length (noted ys)) ∙ (ap (λ n. nat_lt n (length (noted ys))) (length-noted xs) ∙ ap (nat_lt (length xs)) (length-noted ys))) ∙ picked (nat_lt (length xs) (length ys))
  where
    pick : Bool → List Line
    pick b = cond b (lines_with g tells ys) (lines_with g tells xs)

    picked : (b : Bool) → cond b (lines_with g tells ys) (lines_with g tells xs) ≡ lines_with g tells (cond b ys xs)
    picked true = refl
    picked false = refl

-- the longer of two fronts of one session
pub longer_fronts : (g : Settings) (tells : Bool) (a b : List Line) → a ≡ lines_with (settings_in a) (tells_in a) (entries_in a) → b ≡ lines_with (settings_in b) (tells_in b) (entries_in b)
    → settings_in a ≡ g → settings_in b ≡ g → tells_in a ≡ tells → tells_in b ≡ tells → longer a b ≡ lines_with g tells (longer (entries_in a) (entries_in b))
longer_fronts g tells a b la lb sa sb ta tb =
    let p : a ≡ lines_with g tells (entries_in a) = la ∙ (ap (λ s. lines_with s (tells_in a) (entries_in a)) sa ∙ ap (λ t. lines_with g t (entries_in a)) ta) in
    let q : b ≡ lines_with g tells (entries_in b) = lb ∙ (ap (λ s. lines_with s (tells_in b) (entries_in b)) sb ∙ ap (λ t. lines_with g t (entries_in b)) tb) in
    ap (λ x. longer x b) p ∙ (ap (longer (lines_with g tells (entries_in a))) q ∙ longer_lines g tells (entries_in a) (entries_in b))
