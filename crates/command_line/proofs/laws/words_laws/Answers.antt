use Rattle.command_line.proofs.Asking.{cable_row, frames_back_row, frames_row, one, threads_row}
use Rattle.command_line.proofs.First.{apart, apart_of_load, apart_of_server, call_or_load, call_or_serve, load_or_serve, one_load}
use Rattle.command_line.proofs.OneCall.{one_call}
use Rattle.command_line.proofs.OneServer.{in_range, one_server}
use Rattle.command_line.proofs.laws.words_laws.Goals as goal

pub returns : goal.returns
returns c = record {
  one = one;
  one_call = one_call;
  one_load = one_load;
  one_server = one_server;
  in_range = in_range;
  apart = apart;
  apart_of_load = apart_of_load;
  call_or_load = call_or_load;
  apart_of_server = apart_of_server;
  call_or_serve = call_or_serve;
  load_or_serve = load_or_serve;
  cable = cable_row;
  cable_threads = threads_row;
  frames = frames_row;
  frames_back = frames_back_row;
}
