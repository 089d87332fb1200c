-- What is said of a call whose stream is not started.
use Rattle.std.proofs.Common.{◌≡◌, List, [], None, false, refl}
use Rattle.rs_wire.specs.declared.words.Kind.{Kind}
use Rattle.rs_wire.specs.declared.words.Kind.TheVariants as kinds
use Rattle.tape.specs.declared.entry.Entry.{Entry}
use Rattle.call_model.specs.Saying.{end_line, said, started}

no_end : (k : Kind) → end_line k false ≡ []
no_end kinds.Fnf = refl
no_end kinds.Response = refl
no_end kinds.Stream = refl
no_end kinds.Channel = refl

pub says_nothing : (k : Kind) (past : List Entry) → started past ≡ None → said k false past ≡ []
says_nothing k past none = rw (none, no_end k) refl
