use Rattle.std.proofs.Common.{◌≡◌, map, take}
use Rattle.std.specs.List.{All}
use Rattle.std.specs.Str.{IsUtf8}
use Rattle.command_line.proofs.texts.texts.Given as goal

-- the words so far are text, and are kept
abbrev pub invariant-loop-word : goal.invariant-loop-word
invariant-loop-word l = record {
  same : map (λ t. t.now) l.texts.items ≡ take l.word-index l.words;
  text : All IsUtf8 (take l.word-index l.words);
}
