-- Each stream keeps its laws.
use Rattle.std.proofs.Common.{ℕ, List}
use Rattle.stream_model.specs.Marks.{Mark}
use Rattle.stream_model.specs.Fair.{Fair}
use Rattle.stream_model.specs.Laws.{EachStream}
use Rattle.stream_model.proofs.Words.{used_within, taken_first}
use Rattle.stream_model.proofs.Response.{one_response}
use Rattle.stream_model.proofs.Ends.{one_end}
use Rattle.stream_model.proofs.Delivered.{dropped, items_delivered, end_delivered}
use Rattle.stream_model.proofs.Streams.{fair_words}

pub each_stream : (most : ℕ) (seen : List Mark) → Fair most seen → EachStream most seen
each_stream most seen h s t is =
    let fair = fair_words most seen s t h is in
    record {
      credit = λ needs w. used_within t.opening t.words w needs fair;
      response = λ response. (one_response t.opening t.words response).1;
      taken = taken_first t.opening t.words fair;
      one_end = (one_end t.opening t.words fair).1;
      dropped = dropped t.opening t.words fair;
      items = items_delivered t.opening t.words;
      ended = λ other. end_delivered t.opening t.words other;
    }
