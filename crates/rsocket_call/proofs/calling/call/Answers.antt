use Rattle.rsocket_call.specs.declared.make.Made.TheVariants as made
use Rattle.rsocket_call.proofs.Telling.{cut_off, dead, done, failed_writes, idle, memory, refused, status_is, unlinked}
use Rattle.rsocket_call.proofs.calling.call.Goals as goal

pub returns-in-Called-clause-status : goal.returns-in-Called-clause-status
returns-in-Called-clause-status g c = status_is (made.Called c.in-Called.called) (g.O.Sink.shown c.come.new.output) (g.O.Sink.shown c.tell.new.output) c.tell.result (record { told = c.tell.ensures.told; memory = c.tell.ensures.memory })

pub returns-in-Called-clause-done : goal.returns-in-Called-clause-done
returns-in-Called-clause-done g c = done (made.Called c.in-Called.called) c.args.task.now (g.K.Clock.moments c.args.clock.now) g.H.Shelf.fresh (g.H.Shelf.back c.args.shelf.now) (g.H.Shelf.back c.come.new.shelf) (g.N.Net.asked c.args.net.now) (g.N.Net.asked c.come.new.net)
    (g.N.Net.back c.args.net.now) (g.N.Net.back c.come.new.net) (g.N.Net.faults c.args.net.now) (g.N.Net.faults c.come.new.net) (g.O.Sink.shown c.args.output.now) (g.O.Sink.shown c.come.new.output) (g.O.Sink.shown c.tell.new.output) c.tell.result
    c.in-Called.ensures.come (record { told = c.tell.ensures.told; memory = c.tell.ensures.memory })

pub returns-in-Called-clause-cut_off : goal.returns-in-Called-clause-cut_off
returns-in-Called-clause-cut_off g c = cut_off (made.Called c.in-Called.called) c.args.task.now (g.K.Clock.moments c.args.clock.now) g.H.Shelf.fresh (g.H.Shelf.back c.args.shelf.now) (g.H.Shelf.back c.come.new.shelf) (g.N.Net.asked c.args.net.now) (g.N.Net.asked c.come.new.net)
    (g.N.Net.back c.args.net.now) (g.N.Net.back c.come.new.net) (g.N.Net.faults c.args.net.now) (g.N.Net.faults c.come.new.net) (g.O.Sink.shown c.args.output.now) (g.O.Sink.shown c.come.new.output) (g.O.Sink.shown c.tell.new.output) c.tell.result
    c.in-Called.ensures.come (record { told = c.tell.ensures.told; memory = c.tell.ensures.memory })

pub returns-in-Called-clause-memory : goal.returns-in-Called-clause-memory
returns-in-Called-clause-memory g c = memory (made.Called c.in-Called.called) c.args.task.now (g.K.Clock.moments c.args.clock.now) g.H.Shelf.fresh (g.H.Shelf.back c.args.shelf.now) (g.H.Shelf.back c.come.new.shelf) (g.N.Net.asked c.args.net.now) (g.N.Net.asked c.come.new.net)
    (g.N.Net.back c.args.net.now) (g.N.Net.back c.come.new.net) (g.N.Net.faults c.args.net.now) (g.N.Net.faults c.come.new.net) (g.O.Sink.shown c.args.output.now) (g.O.Sink.shown c.come.new.output) (g.O.Sink.shown c.tell.new.output) c.tell.result
    c.in-Called.ensures.come (record { told = c.tell.ensures.told; memory = c.tell.ensures.memory })

pub returns-in-Called-clause-refused : goal.returns-in-Called-clause-refused
returns-in-Called-clause-refused g c = refused (made.Called c.in-Called.called) c.args.task.now (g.K.Clock.moments c.args.clock.now) g.H.Shelf.fresh (g.H.Shelf.back c.args.shelf.now) (g.H.Shelf.back c.come.new.shelf) (g.N.Net.asked c.args.net.now) (g.N.Net.asked c.come.new.net)
    (g.N.Net.back c.args.net.now) (g.N.Net.back c.come.new.net) (g.N.Net.faults c.args.net.now) (g.N.Net.faults c.come.new.net) (g.O.Sink.shown c.args.output.now) (g.O.Sink.shown c.come.new.output) (g.O.Sink.shown c.tell.new.output) c.tell.result
    c.in-Called.ensures.come (record { told = c.tell.ensures.told; memory = c.tell.ensures.memory })

pub returns-in-Called-clause-unlinked : goal.returns-in-Called-clause-unlinked
returns-in-Called-clause-unlinked g c = unlinked (made.Called c.in-Called.called) c.args.task.now (g.K.Clock.moments c.args.clock.now) g.H.Shelf.fresh (g.H.Shelf.back c.args.shelf.now) (g.H.Shelf.back c.come.new.shelf) (g.N.Net.asked c.args.net.now) (g.N.Net.asked c.come.new.net)
    (g.N.Net.back c.args.net.now) (g.N.Net.back c.come.new.net) (g.N.Net.faults c.args.net.now) (g.N.Net.faults c.come.new.net) (g.O.Sink.shown c.args.output.now) (g.O.Sink.shown c.come.new.output) (g.O.Sink.shown c.tell.new.output) c.tell.result
    c.in-Called.ensures.come (record { told = c.tell.ensures.told; memory = c.tell.ensures.memory })

pub returns-in-Called-clause-dead : goal.returns-in-Called-clause-dead
returns-in-Called-clause-dead g c = dead (made.Called c.in-Called.called) c.args.task.now (g.K.Clock.moments c.args.clock.now) g.H.Shelf.fresh (g.H.Shelf.back c.args.shelf.now) (g.H.Shelf.back c.come.new.shelf) (g.N.Net.asked c.args.net.now) (g.N.Net.asked c.come.new.net)
    (g.N.Net.back c.args.net.now) (g.N.Net.back c.come.new.net) (g.N.Net.faults c.args.net.now) (g.N.Net.faults c.come.new.net) (g.O.Sink.shown c.args.output.now) (g.O.Sink.shown c.come.new.output) (g.O.Sink.shown c.tell.new.output) c.tell.result
    c.in-Called.ensures.come (record { told = c.tell.ensures.told; memory = c.tell.ensures.memory })

pub returns-in-Called-clause-idle : goal.returns-in-Called-clause-idle
returns-in-Called-clause-idle g c = idle (made.Called c.in-Called.called) c.args.task.now (g.K.Clock.moments c.args.clock.now) g.H.Shelf.fresh (g.H.Shelf.back c.args.shelf.now) (g.H.Shelf.back c.come.new.shelf) (g.N.Net.asked c.args.net.now) (g.N.Net.asked c.come.new.net)
    (g.N.Net.back c.args.net.now) (g.N.Net.back c.come.new.net) (g.N.Net.faults c.args.net.now) (g.N.Net.faults c.come.new.net) (g.O.Sink.shown c.args.output.now) (g.O.Sink.shown c.come.new.output) (g.O.Sink.shown c.tell.new.output) c.tell.result
    c.in-Called.ensures.come (record { told = c.tell.ensures.told; memory = c.tell.ensures.memory })

pub returns-in-Called-clause-failed_writes : goal.returns-in-Called-clause-failed_writes
returns-in-Called-clause-failed_writes g c = failed_writes (made.Called c.in-Called.called) c.args.task.now (g.K.Clock.moments c.args.clock.now) g.H.Shelf.fresh (g.H.Shelf.back c.args.shelf.now) (g.H.Shelf.back c.come.new.shelf) (g.N.Net.asked c.args.net.now) (g.N.Net.asked c.come.new.net)
    (g.N.Net.back c.args.net.now) (g.N.Net.back c.come.new.net) (g.N.Net.faults c.args.net.now) (g.N.Net.faults c.come.new.net) (g.O.Sink.shown c.args.output.now) (g.O.Sink.shown c.come.new.output) (g.O.Sink.shown c.tell.new.output) c.tell.result
    c.in-Called.ensures.come (record { told = c.tell.ensures.told; memory = c.tell.ensures.memory })
