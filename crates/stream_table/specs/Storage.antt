-- How the open streams lie in the fields of a table.
use Rattle.indexmap.specs.IndexMap.{spare}
use Rattle.stream_table.specs.Tables.{TableOf}
use Rattle.stream_table.specs.declared.table.Table.TheInside.{Inside}

abbrev pub table_of : Inside → TableOf
table_of t = record {
  limits = t.limits;
  kept = t.streams.entries;
  place = spare t.streams;
  even = t.ids.even;
  odd = t.ids.odd;
}
