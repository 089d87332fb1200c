use Rattle.rs_chunk.proofs.reader.Reader.front_view.Goals as goal

pub returns : goal.returns
returns c =
    let front = rw c.as_slice.ensures at c.front_view_of.ensures in
    rw (← c.self.view_is) front
