use Rattle.serve_links.proofs.Linking.{works_at_home}
use Rattle.serve_links.proofs.laws.a_link_works_at_its_own_slot.Goals as goal

pub returns : goal.returns
returns c = λ g moments helps grant k olds news link s opened i n front fresh back legal off out adds apart is has. works_at_home g moments helps grant k olds news link s fresh back legal off out opened adds i n front apart is has
