use Rattle.crew.proofs.serving.fn.serve_with_workers.here.Goals as goal

-- however the links left the places, the last task may be done
pub finish-requires : goal.finish-requires
finish-requires g c = c.requires.5.after c.serve_each.new.net c.serve_each.new.places c.serve_each.ensures
