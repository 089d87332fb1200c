-- The links that places have, how they were served, and whether memory ran out at one.
use Rattle.std.specs.Prelude.{◌||◌, Bool, true, false, List, [], ◌∷◌, ◌++◌, Option, Some, None}
use Rattle.outside.specs.Links.{Shown}
use Rattle.outside.specs.declared.net.NetFault.{NetFault}
use Rattle.outside.specs.declared.net.NetFault.TheVariants as faults
use Rattle.server.specs.Serving.{Outcome}
use Rattle.server.specs.declared.served.Served.{Served}
use Rattle.server.specs.declared.served.Served.TheVariants as served
use Rattle.serve_threads.specs.declared.guest.Guest.{Guest}

abbrev pub link_in : {L : Type 0} → (L → Shown) → Option L → List Shown
link_in shown None = []
link_in shown (Some link) = shown link ∷ []

-- what the links of these places show, where there are some
abbrev pub links_of : {L T : Type 0} → (L → Shown) → List (Guest L T) → List Shown
links_of shown [] = []
links_of shown (p ∷ places) = link_in shown p.link ++ links_of shown places

abbrev pub answer_in : Option Outcome → List Served
answer_in None = []
answer_in (Some outcome) = outcome.0 ∷ []

-- how they were served
abbrev pub answers_of : {L T : Type 0} → List (Guest L T) → List Served
answers_of [] = []
answers_of (p ∷ places) = answer_in p.answer ++ answers_of places

abbrev pub is_memory : Option NetFault → Bool
is_memory (Some faults.OutOfMemory) = true
is_memory _ = false

abbrev pub is_out_of_memory : Served → Bool
is_out_of_memory served.OutOfMemory = true
is_out_of_memory _ = false

abbrev pub ran_out : Option Outcome → Bool
ran_out None = false
ran_out (Some outcome) = is_out_of_memory outcome.0

-- memory ran out while the net was waited for, or while the link was served
abbrev pub lacks_memory : {L T : Type 0} → Guest L T → Bool
lacks_memory p = is_memory p.missed || ran_out p.answer

-- at some place it did
abbrev pub some_lack : {L T : Type 0} → List (Guest L T) → Bool
some_lack [] = false
some_lack (p ∷ places) = lacks_memory p || some_lack places
