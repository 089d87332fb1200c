use Rattle.std.proofs.Common.{[], refl, rules}
use Rattle.command_line.specs.Calls.{AsksCall}
use Rattle.command_line.specs.Loads.{AsksLoad}
use Rattle.command_line.specs.Serves.{AsksServe}
use Rattle.command_line.specs.Words.{Asks}
use Rattle.command_line.specs.declared.task.Asked.TheVariants as asked
use Rattle.command_line.specs.declared.task.Task.TheVariants as tasks
use Rattle.rsocket_run.specs.Run.{AskNothing}
use Rattle.rsocket_run.proofs.Serving.{no_tapes}
use Rattle.rsocket_run.proofs.program.run.Goals as goal

pub returns-in-Err-Usage-clause-task_status : goal.returns-in-Err-Usage-clause-task_status
returns-in-Err-Usage-clause-task_status g c =
    let none : AskNothing c.args.words.now = c.in-Err-Usage.ensures.usage (search rules) in
    λ task asks. absurd (none (asked.Task task) asks)

pub returns-in-Err-Usage-clause-call_status : goal.returns-in-Err-Usage-clause-call_status
returns-in-Err-Usage-clause-call_status g c =
    let none : AskNothing c.args.words.now = c.in-Err-Usage.ensures.usage (search rules) in
    λ t asks. absurd (none (asked.Call t) asks)

pub returns-in-Err-Usage-clause-complete : goal.returns-in-Err-Usage-clause-complete
returns-in-Err-Usage-clause-complete g c =
    let none : AskNothing c.args.words.now = c.in-Err-Usage.ensures.usage (search rules) in
    λ task text asks told right read written. absurd (none (asked.Task task) asks)

pub returns-in-Ok-Call-clause-played : goal.returns-in-Ok-Call-clause-played
returns-in-Ok-Call-clause-played g c =
    let calls : AsksCall c.args.words.now c.in-Ok-Call.task = search rules in
    λ threads zero asks. absurd (c.words_laws.ensures.apart c.args.words.now (tasks.Cable threads) c.in-Ok-Call.task asks calls)

pub returns-in-Err-Usage-clause-load_status : goal.returns-in-Err-Usage-clause-load_status
returns-in-Err-Usage-clause-load_status g c =
    let none : AskNothing c.args.words.now = c.in-Err-Usage.ensures.usage (search rules) in
    λ seed asks. absurd (none (asked.Load seed) asks)

pub returns-in-Err-Usage-clause-serve_status : goal.returns-in-Err-Usage-clause-serve_status
returns-in-Err-Usage-clause-serve_status g c =
    let none : AskNothing c.args.words.now = c.in-Err-Usage.ensures.usage (search rules) in
    λ t asks. absurd (none (asked.Serve t) asks)

pub returns-in-Ok-Load-clause-played : goal.returns-in-Ok-Load-clause-played
returns-in-Ok-Load-clause-played g c =
    let loads : AsksLoad c.args.words.now c.in-Ok-Load.seed = search rules in
    λ threads zero asks. absurd (c.words_laws.ensures.apart_of_load c.args.words.now (tasks.Cable threads) c.in-Ok-Load.seed asks loads)

pub returns-in-Ok-Serve-clause-played : goal.returns-in-Ok-Serve-clause-played
returns-in-Ok-Serve-clause-played g c =
    let serves : AsksServe c.args.words.now c.in-Ok-Serve.task = search rules in
    λ threads zero asks. absurd (c.words_laws.ensures.apart_of_server c.args.words.now (tasks.Cable threads) c.in-Ok-Serve.task asks serves)

pub returns-in-Ok-Task-clause-served : goal.returns-in-Ok-Task-clause-served
returns-in-Ok-Task-clause-served g c =
    let asked_for : Asks c.args.words.now c.in-Ok-Task.task = search rules in
    λ zero t asks. absurd (c.words_laws.ensures.apart_of_server c.args.words.now c.in-Ok-Task.task t asked_for asks)

pub returns-in-Ok-Call-clause-served : goal.returns-in-Ok-Call-clause-served
returns-in-Ok-Call-clause-served g c =
    let asked_for : AsksCall c.args.words.now c.in-Ok-Call.task = search rules in
    λ zero t asks. absurd (c.words_laws.ensures.call_or_serve c.args.words.now c.in-Ok-Call.task t asked_for asks)

pub returns-in-Ok-Task-clause-serve_unread : goal.returns-in-Ok-Task-clause-serve_unread
returns-in-Ok-Task-clause-serve_unread g c =
    let asked_for : Asks c.args.words.now c.in-Ok-Task.task = search rules in
    λ t asks. absurd (c.words_laws.ensures.apart_of_server c.args.words.now c.in-Ok-Task.task t asked_for asks)

pub returns-in-Ok-Task-clause-serve_status : goal.returns-in-Ok-Task-clause-serve_status
returns-in-Ok-Task-clause-serve_status g c =
    let asked_for : Asks c.args.words.now c.in-Ok-Task.task = search rules in
    λ t asks. absurd (c.words_laws.ensures.apart_of_server c.args.words.now c.in-Ok-Task.task t asked_for asks)

pub returns-in-Ok-Call-clause-serve_status : goal.returns-in-Ok-Call-clause-serve_status
returns-in-Ok-Call-clause-serve_status g c =
    let asked_for : AsksCall c.args.words.now c.in-Ok-Call.task = search rules in
    λ t asks. absurd (c.words_laws.ensures.call_or_serve c.args.words.now c.in-Ok-Call.task t asked_for asks)

pub returns-in-Ok-Task-clause-serve_got : goal.returns-in-Ok-Task-clause-serve_got
returns-in-Ok-Task-clause-serve_got g c =
    let asked_for : Asks c.args.words.now c.in-Ok-Task.task = search rules in
    λ t asks. absurd (c.words_laws.ensures.apart_of_server c.args.words.now c.in-Ok-Task.task t asked_for asks)

pub returns-in-Ok-Call-clause-serve_got : goal.returns-in-Ok-Call-clause-serve_got
returns-in-Ok-Call-clause-serve_got g c =
    let asked_for : AsksCall c.args.words.now c.in-Ok-Call.task = search rules in
    λ t asks. absurd (c.words_laws.ensures.call_or_serve c.args.words.now c.in-Ok-Call.task t asked_for asks)

pub returns-in-Ok-Task-clause-serve_cut_off : goal.returns-in-Ok-Task-clause-serve_cut_off
returns-in-Ok-Task-clause-serve_cut_off g c =
    let asked_for : Asks c.args.words.now c.in-Ok-Task.task = search rules in
    λ five t asks. absurd (c.words_laws.ensures.apart_of_server c.args.words.now c.in-Ok-Task.task t asked_for asks)

pub returns-in-Ok-Call-clause-serve_cut_off : goal.returns-in-Ok-Call-clause-serve_cut_off
returns-in-Ok-Call-clause-serve_cut_off g c =
    let asked_for : AsksCall c.args.words.now c.in-Ok-Call.task = search rules in
    λ five t asks. absurd (c.words_laws.ensures.call_or_serve c.args.words.now c.in-Ok-Call.task t asked_for asks)

pub returns-in-Ok-Task-clause-serve_complete : goal.returns-in-Ok-Task-clause-serve_complete
returns-in-Ok-Task-clause-serve_complete g c =
    let asked_for : Asks c.args.words.now c.in-Ok-Task.task = search rules in
    λ t asks quiet written. absurd (c.words_laws.ensures.apart_of_server c.args.words.now c.in-Ok-Task.task t asked_for asks)

pub returns-in-Ok-Call-clause-serve_complete : goal.returns-in-Ok-Call-clause-serve_complete
returns-in-Ok-Call-clause-serve_complete g c =
    let asked_for : AsksCall c.args.words.now c.in-Ok-Call.task = search rules in
    λ t asks quiet written. absurd (c.words_laws.ensures.call_or_serve c.args.words.now c.in-Ok-Call.task t asked_for asks)

pub returns-in-Ok-Task-clause-serve_memory_line : goal.returns-in-Ok-Task-clause-serve_memory_line
returns-in-Ok-Task-clause-serve_memory_line g c =
    let asked_for : Asks c.args.words.now c.in-Ok-Task.task = search rules in
    λ six t asks. absurd (c.words_laws.ensures.apart_of_server c.args.words.now c.in-Ok-Task.task t asked_for asks)

pub returns-in-Ok-Call-clause-serve_memory_line : goal.returns-in-Ok-Call-clause-serve_memory_line
returns-in-Ok-Call-clause-serve_memory_line g c =
    let asked_for : AsksCall c.args.words.now c.in-Ok-Call.task = search rules in
    λ six t asks. absurd (c.words_laws.ensures.call_or_serve c.args.words.now c.in-Ok-Call.task t asked_for asks)

pub returns-in-Ok-Task-clause-net_failed : goal.returns-in-Ok-Task-clause-net_failed
returns-in-Ok-Task-clause-net_failed g c =
    let asked_for : Asks c.args.words.now c.in-Ok-Task.task = search rules in
    λ eight t asks. absurd (c.words_laws.ensures.apart_of_server c.args.words.now c.in-Ok-Task.task t asked_for asks)

pub returns-in-Ok-Call-clause-net_failed : goal.returns-in-Ok-Call-clause-net_failed
returns-in-Ok-Call-clause-net_failed g c =
    let asked_for : AsksCall c.args.words.now c.in-Ok-Call.task = search rules in
    λ eight t asks. absurd (c.words_laws.ensures.call_or_serve c.args.words.now c.in-Ok-Call.task t asked_for asks)

pub returns-in-Ok-Call-clause-loaded : goal.returns-in-Ok-Call-clause-loaded
returns-in-Ok-Call-clause-loaded g c =
    let asked_for : AsksCall c.args.words.now c.in-Ok-Call.task = search rules in
    λ zero seed asks. absurd (c.words_laws.ensures.call_or_load c.args.words.now c.in-Ok-Call.task seed asked_for asks)

pub returns-in-Ok-Serve-clause-loaded : goal.returns-in-Ok-Serve-clause-loaded
returns-in-Ok-Serve-clause-loaded g c =
    let asked_for : AsksServe c.args.words.now c.in-Ok-Serve.task = search rules in
    λ zero seed asks. absurd (c.words_laws.ensures.load_or_serve c.args.words.now seed c.in-Ok-Serve.task asks asked_for)

pub returns-in-Ok-Call-clause-load_status : goal.returns-in-Ok-Call-clause-load_status
returns-in-Ok-Call-clause-load_status g c =
    let asked_for : AsksCall c.args.words.now c.in-Ok-Call.task = search rules in
    λ seed asks. absurd (c.words_laws.ensures.call_or_load c.args.words.now c.in-Ok-Call.task seed asked_for asks)

pub returns-in-Ok-Serve-clause-load_status : goal.returns-in-Ok-Serve-clause-load_status
returns-in-Ok-Serve-clause-load_status g c =
    let asked_for : AsksServe c.args.words.now c.in-Ok-Serve.task = search rules in
    λ seed asks. absurd (c.words_laws.ensures.load_or_serve c.args.words.now seed c.in-Ok-Serve.task asks asked_for)

pub returns-in-Ok-Call-clause-load_net : goal.returns-in-Ok-Call-clause-load_net
returns-in-Ok-Call-clause-load_net g c =
    let asked_for : AsksCall c.args.words.now c.in-Ok-Call.task = search rules in
    λ seed asks. absurd (c.words_laws.ensures.call_or_load c.args.words.now c.in-Ok-Call.task seed asked_for asks)

pub returns-in-Ok-Serve-clause-load_net : goal.returns-in-Ok-Serve-clause-load_net
returns-in-Ok-Serve-clause-load_net g c =
    let asked_for : AsksServe c.args.words.now c.in-Ok-Serve.task = search rules in
    λ seed asks. absurd (c.words_laws.ensures.load_or_serve c.args.words.now seed c.in-Ok-Serve.task asks asked_for)

pub returns-in-Ok-Call-clause-load_memory_line : goal.returns-in-Ok-Call-clause-load_memory_line
returns-in-Ok-Call-clause-load_memory_line g c =
    let asked_for : AsksCall c.args.words.now c.in-Ok-Call.task = search rules in
    λ six seed asks. absurd (c.words_laws.ensures.call_or_load c.args.words.now c.in-Ok-Call.task seed asked_for asks)

pub returns-in-Ok-Call-clause-load_got : goal.returns-in-Ok-Call-clause-load_got
returns-in-Ok-Call-clause-load_got g c =
    let asked_for : AsksCall c.args.words.now c.in-Ok-Call.task = search rules in
    λ seed asks. absurd (c.words_laws.ensures.call_or_load c.args.words.now c.in-Ok-Call.task seed asked_for asks)

pub returns-in-Ok-Serve-clause-load_got : goal.returns-in-Ok-Serve-clause-load_got
returns-in-Ok-Serve-clause-load_got g c =
    let asked_for : AsksServe c.args.words.now c.in-Ok-Serve.task = search rules in
    λ seed asks. absurd (c.words_laws.ensures.load_or_serve c.args.words.now seed c.in-Ok-Serve.task asks asked_for)

pub returns-in-Ok-Call-clause-load_cut_off : goal.returns-in-Ok-Call-clause-load_cut_off
returns-in-Ok-Call-clause-load_cut_off g c =
    let asked_for : AsksCall c.args.words.now c.in-Ok-Call.task = search rules in
    λ five seed asks. absurd (c.words_laws.ensures.call_or_load c.args.words.now c.in-Ok-Call.task seed asked_for asks)

pub returns-in-Ok-Serve-clause-load_cut_off : goal.returns-in-Ok-Serve-clause-load_cut_off
returns-in-Ok-Serve-clause-load_cut_off g c =
    let asked_for : AsksServe c.args.words.now c.in-Ok-Serve.task = search rules in
    λ five seed asks. absurd (c.words_laws.ensures.load_or_serve c.args.words.now seed c.in-Ok-Serve.task asks asked_for)

pub returns-in-Ok-Load-clause-served : goal.returns-in-Ok-Load-clause-served
returns-in-Ok-Load-clause-served g c =
    let asked_for : AsksLoad c.args.words.now c.in-Ok-Load.seed = search rules in
    λ zero t asks. absurd (c.words_laws.ensures.load_or_serve c.args.words.now c.in-Ok-Load.seed t asked_for asks)

pub returns-in-Ok-Load-clause-serve_got : goal.returns-in-Ok-Load-clause-serve_got
returns-in-Ok-Load-clause-serve_got g c =
    let asked_for : AsksLoad c.args.words.now c.in-Ok-Load.seed = search rules in
    λ t asks. absurd (c.words_laws.ensures.load_or_serve c.args.words.now c.in-Ok-Load.seed t asked_for asks)

pub returns-in-Ok-Load-clause-serve_cut_off : goal.returns-in-Ok-Load-clause-serve_cut_off
returns-in-Ok-Load-clause-serve_cut_off g c =
    let asked_for : AsksLoad c.args.words.now c.in-Ok-Load.seed = search rules in
    λ five t asks. absurd (c.words_laws.ensures.load_or_serve c.args.words.now c.in-Ok-Load.seed t asked_for asks)

pub returns-in-Ok-Load-clause-got : goal.returns-in-Ok-Load-clause-got
returns-in-Ok-Load-clause-got g c =
    let asked_for : AsksLoad c.args.words.now c.in-Ok-Load.seed = search rules in
    λ t asks. absurd (c.words_laws.ensures.call_or_load c.args.words.now t c.in-Ok-Load.seed asks asked_for)

pub returns-in-Ok-Serve-clause-got : goal.returns-in-Ok-Serve-clause-got
returns-in-Ok-Serve-clause-got g c =
    let asked_for : AsksServe c.args.words.now c.in-Ok-Serve.task = search rules in
    λ t asks. absurd (c.words_laws.ensures.call_or_serve c.args.words.now t c.in-Ok-Serve.task asks asked_for)

pub returns-in-Ok-Load-clause-called : goal.returns-in-Ok-Load-clause-called
returns-in-Ok-Load-clause-called g c =
    let asked_for : AsksLoad c.args.words.now c.in-Ok-Load.seed = search rules in
    λ zero t asks. absurd (c.words_laws.ensures.call_or_load c.args.words.now t c.in-Ok-Load.seed asks asked_for)

pub returns-in-Ok-Serve-clause-called : goal.returns-in-Ok-Serve-clause-called
returns-in-Ok-Serve-clause-called g c =
    let asked_for : AsksServe c.args.words.now c.in-Ok-Serve.task = search rules in
    λ zero t asks. absurd (c.words_laws.ensures.call_or_serve c.args.words.now t c.in-Ok-Serve.task asks asked_for)

pub returns-in-Ok-Load-clause-call_cut_off : goal.returns-in-Ok-Load-clause-call_cut_off
returns-in-Ok-Load-clause-call_cut_off g c =
    let asked_for : AsksLoad c.args.words.now c.in-Ok-Load.seed = search rules in
    λ five t asks. absurd (c.words_laws.ensures.call_or_load c.args.words.now t c.in-Ok-Load.seed asks asked_for)

pub returns-in-Ok-Serve-clause-call_cut_off : goal.returns-in-Ok-Serve-clause-call_cut_off
returns-in-Ok-Serve-clause-call_cut_off g c =
    let asked_for : AsksServe c.args.words.now c.in-Ok-Serve.task = search rules in
    λ five t asks. absurd (c.words_laws.ensures.call_or_serve c.args.words.now t c.in-Ok-Serve.task asks asked_for)

pub returns-in-Ok-Serve-clause-unlinked : goal.returns-in-Ok-Serve-clause-unlinked
returns-in-Ok-Serve-clause-unlinked g c =
    let asked_for : AsksServe c.args.words.now c.in-Ok-Serve.task = search rules in
    λ eight t asks. absurd (c.words_laws.ensures.call_or_serve c.args.words.now t c.in-Ok-Serve.task asks asked_for)

pub returns-in-Ok-Serve-clause-task_status : goal.returns-in-Ok-Serve-clause-task_status
returns-in-Ok-Serve-clause-task_status g c =
    let asked_for : AsksServe c.args.words.now c.in-Ok-Serve.task = search rules in
    λ task asks. absurd (c.words_laws.ensures.apart_of_server c.args.words.now task c.in-Ok-Serve.task asks asked_for)

pub returns-in-Ok-Serve-clause-task_net : goal.returns-in-Ok-Serve-clause-task_net
returns-in-Ok-Serve-clause-task_net g c =
    let asked_for : AsksServe c.args.words.now c.in-Ok-Serve.task = search rules in
    λ task asks. absurd (c.words_laws.ensures.apart_of_server c.args.words.now task c.in-Ok-Serve.task asks asked_for)

pub returns-in-Ok-Serve-clause-back : goal.returns-in-Ok-Serve-clause-back
returns-in-Ok-Serve-clause-back g c =
    let asked_for : AsksServe c.args.words.now c.in-Ok-Serve.task = search rules in
    λ task asks. absurd (c.words_laws.ensures.apart_of_server c.args.words.now task c.in-Ok-Serve.task asks asked_for)

pub returns-in-Ok-Serve-clause-complete : goal.returns-in-Ok-Serve-clause-complete
returns-in-Ok-Serve-clause-complete g c =
    let asked_for : AsksServe c.args.words.now c.in-Ok-Serve.task = search rules in
    λ task text asks told right quiet written. absurd (c.words_laws.ensures.apart_of_server c.args.words.now task c.in-Ok-Serve.task asks asked_for)

pub returns-in-Ok-Serve-clause-done : goal.returns-in-Ok-Serve-clause-done
returns-in-Ok-Serve-clause-done g c =
    let asked_for : AsksServe c.args.words.now c.in-Ok-Serve.task = search rules in
    λ zero task text asks told. absurd (c.words_laws.ensures.apart_of_server c.args.words.now task c.in-Ok-Serve.task asks asked_for)

pub returns-in-Ok-Serve-clause-cut_off : goal.returns-in-Ok-Serve-clause-cut_off
returns-in-Ok-Serve-clause-cut_off g c =
    let asked_for : AsksServe c.args.words.now c.in-Ok-Serve.task = search rules in
    λ five task text asks told. absurd (c.words_laws.ensures.apart_of_server c.args.words.now task c.in-Ok-Serve.task asks asked_for)

pub returns-in-Ok-Task-clause-memory : goal.returns-in-Ok-Task-clause-memory
returns-in-Ok-Task-clause-memory g c = λ six. ([], c.run_task.ensures.memory_line six)

pub returns-in-Ok-Load-clause-memory : goal.returns-in-Ok-Load-clause-memory
returns-in-Ok-Load-clause-memory g c = λ six. ([], c.run_load.ensures.memory_line six)

pub returns-in-Ok-Serve-clause-memory : goal.returns-in-Ok-Serve-clause-memory
returns-in-Ok-Serve-clause-memory g c = λ six. ([], c.serve.ensures.memory six)

pub returns-in-Ok-Serve-clause-served : goal.returns-in-Ok-Serve-clause-served
returns-in-Ok-Serve-clause-served g c =
    let asked_for : AsksServe c.args.words.now c.in-Ok-Serve.task = search rules in
    λ zero t asks. rw (c.words_laws.ensures.one_server c.args.words.now t c.in-Ok-Serve.task asks asked_for) (c.serve.ensures.done zero)

pub returns-in-Ok-Serve-clause-serve_cut_off : goal.returns-in-Ok-Serve-clause-serve_cut_off
returns-in-Ok-Serve-clause-serve_cut_off g c =
    let asked_for : AsksServe c.args.words.now c.in-Ok-Serve.task = search rules in
    λ five t asks. rw (c.words_laws.ensures.one_server c.args.words.now t c.in-Ok-Serve.task asks asked_for) (c.serve.ensures.cut_off five)

pub returns-in-Err-Usage-clause-serve_got : goal.returns-in-Err-Usage-clause-serve_got
returns-in-Err-Usage-clause-serve_got g c =
    let none : AskNothing c.args.words.now = c.in-Err-Usage.ensures.usage (search rules) in
    λ t asks. absurd (none (asked.Serve t) asks)

pub returns-in-Err-Usage-clause-serve_complete : goal.returns-in-Err-Usage-clause-serve_complete
returns-in-Err-Usage-clause-serve_complete g c =
    let none : AskNothing c.args.words.now = c.in-Err-Usage.ensures.usage (search rules) in
    λ t asks quiet written. absurd (none (asked.Serve t) asks)

pub returns-in-Err-OutOfMemory-clause-serve_got : goal.returns-in-Err-OutOfMemory-clause-serve_got
returns-in-Err-OutOfMemory-clause-serve_got g c = λ t asks. no_tapes _ _ _ refl

pub serve-requires-clause-connections : goal.serve-requires-clause-connections
serve-requires-clause-connections g c =
    let asked_for : AsksServe c.args.words.now c.in-Ok-Serve.task = search rules in
    let r = c.words_laws.ensures.in_range c.args.words.now c.in-Ok-Serve.task asked_for in
    λ lifetimes outlive. (r.some_connections, r.most_connections)

pub serve-requires-clause-workers : goal.serve-requires-clause-workers
serve-requires-clause-workers g c =
    let asked_for : AsksServe c.args.words.now c.in-Ok-Serve.task = search rules in
    let r = c.words_laws.ensures.in_range c.args.words.now c.in-Ok-Serve.task asked_for in
    λ lifetimes outlive. (r.some_workers, r.most_workers)
