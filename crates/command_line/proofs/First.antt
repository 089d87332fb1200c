-- What words ask for, by the first of them.
use Rattle.std.proofs.Common.{◌≡◌, ◌∙◌, ℕ, true≢false, List, [], Some, sym, ap, refl}
use Rattle.std.specs.Prelude.{codes, slice_get}
use Rattle.std.specs.Str.{bytes_eq}
use Rattle.clap.specs.Walk.{Text}
use Rattle.clap.specs.Words.{fault_of, matches_of}
use Rattle.command_line.specs.declared.call_task.CallTask.{CallTask}
use Rattle.command_line.specs.declared.task.Asked.{Asked}
use Rattle.command_line.specs.declared.task.Asked.TheVariants as asked
use Rattle.command_line.specs.declared.task.Task.{Task}
use Rattle.command_line.specs.declared.task.Task.TheVariants.{Cable, Frames}
use Rattle.command_line.specs.Words.{Asks, cable_app, frames_app}
use Rattle.command_line.specs.Calls.{AsksCall, IsCallOf, call_app}
use Rattle.command_line.specs.Loads.{AsksLoad, IsLoadOf, load_app}
use Rattle.command_line.specs.Serves.{AsksServe, IsServeOf, serve_app}
use Rattle.command_line.specs.declared.serve_task.ServeTask.{ServeTask}
use Rattle.command_line.specs.declared.task.Name.{Name}
use Rattle.command_line.specs.declared.task.Name.TheVariants as name
use Rattle.command_line.specs.Asked.{AsksFor, name_word}

pub call_is_named : call_app.top.name ≡ codes "call"
unfolding call_app
call_is_named = refl

pub serve_is_named : serve_app.top.name ≡ codes "serve"
unfolding serve_app
serve_is_named = refl

-- the command of what words ask for
abbrev pub name_of : Asked → Name
name_of (asked.Task (Cable threads)) = name.Cable
name_of (asked.Task (Frames back)) = name.Frames
name_of (asked.Call t) = name.Call
name_of (asked.Load seed) = name.Load
name_of (asked.Serve t) = name.Serve

-- words that ask for something begin with its command
pub is_first : (words : List Text) (a : Asked) → AsksFor words a → slice_get words 0 ≡ Some (name_word (name_of a))
is_first words (asked.Task (Cable threads)) asks = asks.0.named
is_first words (asked.Task (Frames back)) asks = asks.0.named
is_first words (asked.Call t) asks = asks.taken.named ∙ ap Some call_is_named
is_first words (asked.Load seed) asks = asks.taken.named
is_first words (asked.Serve t) asks = asks.taken.named ∙ ap Some serve_is_named

-- two commands have two words
pub one_word : (m n : Name) → name_word m ≡ name_word n → m ≡ n
one_word name.Cable name.Cable e = refl
one_word name.Cable name.Frames e = let same : codes "cable" ≡ codes "frames" = e in cc
one_word name.Cable name.Call e = let same : codes "cable" ≡ codes "call" = e in cc
one_word name.Cable name.Load e = let same : codes "cable" ≡ codes "load" = e in cc
one_word name.Cable name.Serve e = absurd (true≢false (ap (bytes_eq (codes "cable")) e))
one_word name.Frames name.Cable e = let same : codes "frames" ≡ codes "cable" = e in cc
one_word name.Frames name.Frames e = refl
one_word name.Frames name.Call e = let same : codes "frames" ≡ codes "call" = e in cc
one_word name.Frames name.Load e = let same : codes "frames" ≡ codes "load" = e in cc
one_word name.Frames name.Serve e = let same : codes "frames" ≡ codes "serve" = e in cc
one_word name.Call name.Cable e = let same : codes "call" ≡ codes "cable" = e in cc
one_word name.Call name.Frames e = let same : codes "call" ≡ codes "frames" = e in cc
one_word name.Call name.Call e = refl
one_word name.Call name.Load e = absurd (true≢false (ap (bytes_eq (codes "call")) e))
one_word name.Call name.Serve e = let same : codes "call" ≡ codes "serve" = e in cc
one_word name.Load name.Cable e = let same : codes "load" ≡ codes "cable" = e in cc
one_word name.Load name.Frames e = let same : codes "load" ≡ codes "frames" = e in cc
one_word name.Load name.Call e = absurd (true≢false (ap (bytes_eq (codes "load")) e))
one_word name.Load name.Load e = refl
one_word name.Load name.Serve e = let same : codes "load" ≡ codes "serve" = e in cc
one_word name.Serve name.Cable e = absurd (true≢false (ap (bytes_eq (codes "serve")) e))
one_word name.Serve name.Frames e = let same : codes "serve" ≡ codes "frames" = e in cc
one_word name.Serve name.Call e = let same : codes "serve" ≡ codes "call" = e in cc
one_word name.Serve name.Load e = let same : codes "serve" ≡ codes "load" = e in cc
one_word name.Serve name.Serve e = refl

pub one_name : (words : List Text) (n : Name) (a : Asked) → slice_get words 0 ≡ Some (name_word n) → AsksFor words a → n ≡ name_of a
one_name words n a first asks =
    let same : Some (name_word n) ≡ Some (name_word (name_of a)) = sym first ∙ is_first words a asks in
    one_word n (name_of a) cc

-- where the words of a command are refused, nothing is asked for
pub by_cable : (words : List Text) → slice_get words 0 ≡ Some (codes "cable") → (fault_of cable_app words ≡ [] → ⊥) → (a : Asked) → AsksFor words a → ⊥
by_cable words is refused (asked.Task (Cable threads)) asks = refused asks.0.taken
by_cable words is refused (asked.Task (Frames back)) asks = let same = one_name words name.Cable (asked.Task (Frames back)) is asks in cc
by_cable words is refused (asked.Call t) asks = let same = one_name words name.Cable (asked.Call t) is asks in cc
by_cable words is refused (asked.Load seed) asks = let same = one_name words name.Cable (asked.Load seed) is asks in cc
by_cable words is refused (asked.Serve t) asks = let same = one_name words name.Cable (asked.Serve t) is asks in cc

pub by_frames : (words : List Text) → slice_get words 0 ≡ Some (codes "frames") → (fault_of frames_app words ≡ [] → ⊥) → (a : Asked) → AsksFor words a → ⊥
by_frames words is refused (asked.Task (Cable threads)) asks = let same = one_name words name.Frames (asked.Task (Cable threads)) is asks in cc
by_frames words is refused (asked.Task (Frames back)) asks = refused asks.0.taken
by_frames words is refused (asked.Call t) asks = let same = one_name words name.Frames (asked.Call t) is asks in cc
by_frames words is refused (asked.Load seed) asks = let same = one_name words name.Frames (asked.Load seed) is asks in cc
by_frames words is refused (asked.Serve t) asks = let same = one_name words name.Frames (asked.Serve t) is asks in cc

pub by_call : (words : List Text) → slice_get words 0 ≡ Some (codes "call") → ((t : CallTask) → fault_of call_app words ≡ [] → IsCallOf (matches_of call_app words) t → ⊥) → (a : Asked) → AsksFor words a → ⊥
by_call words is refused (asked.Task (Cable threads)) asks = let same = one_name words name.Call (asked.Task (Cable threads)) is asks in cc
by_call words is refused (asked.Task (Frames back)) asks = let same = one_name words name.Call (asked.Task (Frames back)) is asks in cc
by_call words is refused (asked.Call t) asks = refused t asks.taken.taken asks.read
by_call words is refused (asked.Load seed) asks = let same = one_name words name.Call (asked.Load seed) is asks in cc
by_call words is refused (asked.Serve t) asks = let same = one_name words name.Call (asked.Serve t) is asks in cc

pub by_load : (words : List Text) → slice_get words 0 ≡ Some (codes "load") → ((seed : ℕ) → fault_of load_app words ≡ [] → IsLoadOf (matches_of load_app words) seed → ⊥) → (a : Asked) → AsksFor words a → ⊥
by_load words is refused (asked.Task (Cable threads)) asks = let same = one_name words name.Load (asked.Task (Cable threads)) is asks in cc
by_load words is refused (asked.Task (Frames back)) asks = let same = one_name words name.Load (asked.Task (Frames back)) is asks in cc
by_load words is refused (asked.Call t) asks = let same = one_name words name.Load (asked.Call t) is asks in cc
by_load words is refused (asked.Load seed) asks = refused seed asks.taken.taken asks.read
by_load words is refused (asked.Serve t) asks = let same = one_name words name.Load (asked.Serve t) is asks in cc

pub by_serve : (words : List Text) → slice_get words 0 ≡ Some (codes "serve") → ((t : ServeTask) → fault_of serve_app words ≡ [] → IsServeOf (matches_of serve_app words) t → ⊥) → (a : Asked) → AsksFor words a → ⊥
by_serve words is refused (asked.Task (Cable threads)) asks = let same = one_name words name.Serve (asked.Task (Cable threads)) is asks in cc
by_serve words is refused (asked.Task (Frames back)) asks = let same = one_name words name.Serve (asked.Task (Frames back)) is asks in cc
by_serve words is refused (asked.Call t) asks = let same = one_name words name.Serve (asked.Call t) is asks in cc
by_serve words is refused (asked.Load seed) asks = let same = one_name words name.Serve (asked.Load seed) is asks in cc
by_serve words is refused (asked.Serve t) asks = refused t asks.taken.taken asks.read

pub by_none : (words : List Text) → ((n : Name) → slice_get words 0 ≡ Some (name_word n) → ⊥) → (a : Asked) → AsksFor words a → ⊥
by_none words none a asks = none (name_of a) (is_first words a asks)

-- words ask for one thing alone
not_task : (task : Task) (n : Name) → n ≡ name_of (asked.Task task) → (n ≡ name.Call → ⊥) × (n ≡ name.Load → ⊥) × (n ≡ name.Serve → ⊥)
not_task (Cable threads) n is = (λ e. cc, λ e. cc, λ e. cc)
not_task (Frames back) n is = (λ e. cc, λ e. cc, λ e. cc)

pub apart : (words : List Text) (task : Task) (t : CallTask) → Asks words task → AsksCall words t → ⊥
apart words task t asks calls = (not_task task name.Call (one_name words name.Call (asked.Task task) (is_first words (asked.Call t) calls) asks)).0 refl

pub apart_of_load : (words : List Text) (task : Task) (seed : ℕ) → Asks words task → AsksLoad words seed → ⊥
apart_of_load words task seed asks loads = (not_task task name.Load (one_name words name.Load (asked.Task task) (is_first words (asked.Load seed) loads) asks)).1 refl

pub apart_of_server : (words : List Text) (task : Task) (s : ServeTask) → Asks words task → AsksServe words s → ⊥
apart_of_server words task s asks serves = (not_task task name.Serve (one_name words name.Serve (asked.Task task) (is_first words (asked.Serve s) serves) asks)).2 refl

pub call_or_load : (words : List Text) (t : CallTask) (seed : ℕ) → AsksCall words t → AsksLoad words seed → ⊥
call_or_load words t seed calls loads = let same = one_name words name.Call (asked.Load seed) (is_first words (asked.Call t) calls) loads in cc

pub call_or_serve : (words : List Text) (t : CallTask) (s : ServeTask) → AsksCall words t → AsksServe words s → ⊥
call_or_serve words t s calls serves = let same = one_name words name.Call (asked.Serve s) (is_first words (asked.Call t) calls) serves in cc

pub load_or_serve : (words : List Text) (seed : ℕ) (s : ServeTask) → AsksLoad words seed → AsksServe words s → ⊥
load_or_serve words seed s loads serves = let same = one_name words name.Load (asked.Serve s) (is_first words (asked.Load seed) loads) serves in cc

pub one_load : (words : List Text) (a b : ℕ) → AsksLoad words a → AsksLoad words b → a ≡ b
one_load words a b p q = let same : Some a ≡ Some b = sym p.read ∙ q.read in cc
