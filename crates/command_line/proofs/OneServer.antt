-- Words ask for one server alone, whose numbers are in their ranges.
use Rattle.std.proofs.Common.{◌≡◌, ◌∙◌, ◌≤◌, Bool, ℕ, List, Option, Some, None, sym, refl, arith}
use Rattle.clap.specs.Walk.{Text}
use Rattle.plain_text.proofs.Numbers.{number_takes}
use Rattle.command_line.specs.declared.serve_task.ServeTask.{ServeTask}
use Rattle.command_line.specs.Calls.{number_of, number_or}
use Rattle.command_line.specs.Serves.{AsksServe, IsInRange}
use Rattle.command_line.proofs.OneCall.{some_one}

-- a server, field by field
abbrev made : List ℕ → ℕ → ℕ → Option ℕ → Bool → Bool → ServeTask
made address connections workers lease resume ws = record { address = address; connections = connections; workers = workers; lease = lease; resume = resume; ws = ws }

pub one_server : (words : List Text) (a b : ServeTask) → AsksServe words a → AsksServe words b → a ≡ b
one_server words a b asks asks_too =
    let p = asks.read in
    let q = asks_too.read in
    let address = some_one _ a.address b.address p.address q.address in
    let connections = some_one _ a.connections b.connections p.connections q.connections in
    let workers = some_one _ a.workers b.workers p.workers q.workers in
    let lease = some_one _ a.lease b.lease p.lease q.lease in
    let resume : a.resume ≡ b.resume = p.resume ∙ sym q.resume in
    let ws : a.ws ≡ b.ws = p.ws ∙ sym q.ws in
    let same : made a.address a.connections a.workers a.lease a.resume a.ws ≡ made b.address b.connections b.workers b.lease b.resume b.ws =
    rw (address, connections, workers, lease, resume, ws) refl in
    same

number_lies : (low high n : ℕ) (word : Option (List ℕ)) → number_of low high word ≡ Some n → (low ≤ n) × (n ≤ high)
number_lies low high n None is = cc
number_lies low high n (Some word) is = let t = number_takes low high word n is in (t.1, t.2)

default_lies : (default low high n : ℕ) (word : Option (List ℕ)) → low ≤ default → default ≤ high → number_or default low high word ≡ Some n → (low ≤ n) × (n ≤ high)
default_lies default low high n None some most is = let same : default ≡ n = cc in rw (sym same) (some, most)
default_lies default low high n (Some word) some most is = let t = number_takes low high word n is in (t.1, t.2)

pub in_range : (words : List Text) (t : ServeTask) → AsksServe words t → IsInRange t
in_range words t asks =
    let connections = number_lies 1 64 t.connections _ asks.read.connections in
    let workers = default_lies 1 1 16 t.workers _ (omega arith) (omega arith) asks.read.workers in
    record { some_connections = connections.0; most_connections = connections.1; some_workers = workers.0; most_workers = workers.1 }
