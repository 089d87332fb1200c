-- Frames on a stream of bytes: each after its length, a number of 24 bits (RSocket 1.0, "Framing Protocol Usage").
use Rattle.std.specs.Prelude.{ℕ, List, ◌++◌, length}
use Rattle.std.specs.List.{flat_map}
use Rattle.byteorder.specs.Endian.{big_bytes}
use Rattle.rs_frame.specs.declared.frame.Frame.{Frame}
use Rattle.rs_frame.specs.Spelling.{canonical}

-- the bytes of a frame after their length
abbrev pub framed : List ℕ → List ℕ
framed frame = big_bytes 3 (length frame) ++ frame

-- a frame in its canonical bytes, after its length
abbrev pub framed_frame : Frame → List ℕ
framed_frame frame = framed (canonical frame)

-- each frame in its canonical bytes, each after its length
abbrev pub framed_all : List Frame → List ℕ
framed_all frames = flat_map framed_frame frames
