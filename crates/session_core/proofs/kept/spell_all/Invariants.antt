use Rattle.std.proofs.Common.{◌≡◌, map, take}
use Rattle.rs_frame.specs.Spelling.{canonical}
use Rattle.session_core.proofs.kept.spell_all.Given as goal

abbrev pub invariant-loop-frame : goal.invariant-loop-frame
invariant-loop-frame l = l.spelled.items ≡ map canonical (take l.frame-index l.frames)
