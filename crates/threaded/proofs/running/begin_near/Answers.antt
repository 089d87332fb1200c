use Rattle.threaded.proofs.running.begin_near.Goals as goal

pub returns-clause-sound : goal.returns-clause-sound
returns-clause-sound g c = λ h. rw c.new.ensures.value tt

pub returns-clause-begun : goal.returns-clause-begun
returns-clause-begun g c = rw c.new.ensures.value (c.new.ensures.carries c.requires.caller c.requires.out c.requires.from)
