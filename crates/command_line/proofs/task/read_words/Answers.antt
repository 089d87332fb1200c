use Rattle.std.proofs.Common.{◌∙◌, ap, map}
use Rattle.std.specs.Str.{IsUtf8}
use Rattle.std.proofs.lemmas.List.Elements.{All-same}
use Rattle.command_line.proofs.task.read_words.Goals as goal

pub read_texts-requires : goal.read_texts-requires
read_texts-requires c = All-same IsUtf8 _ _ (ap (map (λ w. w.now)) c.as_slice.ensures.value ∙ c.in_ok-texts.ensures.same) c.in_ok-texts.ensures.text
