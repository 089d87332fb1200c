use Rattle.std.proofs.Common.{◌∙◌, ◌<◌, ◌≤◌, ◌++◌, ◌∷◌, [], ap, ap₂, arith, length, map, subst, sym}
use Rattle.std.specs.Str.{IsUtf8}
use Rattle.std.proofs.lemmas.List.{map-append, take_all, take_more}
use Rattle.std.proofs.lemmas.List.Elements.{All-get_or, All-more, All-same}
use Rattle.command_line.proofs.texts.texts.Goals as goal

pub returns-in-Err-clause-usage : goal.returns-in-Err-clause-usage
returns-in-Err-clause-usage c = λ usage all.
    let within : c.loop-word.word-index < length c.args.words.now = omega arith in
    let text = All-get_or IsUtf8 c.args.words.now c.loop-word.word-index c.word-item.result within all in
    c.in-Err.ensures.cases.0 (subst IsUtf8 (sym (c.as_slice.ensures ∙ c.word-item.is)) text)

pub loop-word-preserved : goal.loop-word-preserved
loop-word-preserved c =
    let within : c.loop-word.word-index < length c.args.words.now = omega arith in
    let text = subst IsUtf8 (c.as_slice.ensures ∙ c.word-item.is) c.in-Ok.ensures.cases.1 in
    let word = c.in-Ok.ensures.cases.0 ∙ c.as_slice.ensures ∙ c.word-item.is in
    let kept = map-append (λ t. t.now) c.loop-word.texts.items (c.in-Ok.text ∷ []) in
    record {
      same = ap (map (λ t. t.now)) c.in_ok-push-in-Ok.ensures.items ∙ kept ∙ ap₂ (λ ts t. ts ++ t ∷ []) c.loop-word.invariant.same word
          ∙ sym (take_more c.args.words.now c.loop-word.word-index c.word-item.result within);
      text = All-more IsUtf8 c.args.words.now c.loop-word.word-index c.word-item.result within c.loop-word.invariant.text text;
    }

pub returns-clause-text : goal.returns-clause-text
returns-clause-text c =
    let all : length c.args.words.now ≤ c.loop-word.word-index = omega arith in
    All-same IsUtf8 _ _ (sym (take_all c.loop-word.word-index c.args.words.now all)) c.loop-word.invariant.text
