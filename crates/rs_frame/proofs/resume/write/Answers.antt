use Rattle.std.proofs.Common.{◌≡◌, ℕ, List, ◌++◌, append_assoc}
use Rattle.rs_frame.proofs.resume.write.Goals as goal

five : (o0 o1 o2 o3 o4 o5 a b c d e : List ℕ) → o1 ≡ o0 ++ a → o2 ≡ o1 ++ b → o3 ≡ o2 ++ c → o4 ≡ o3 ++ d → o5 ≡ o4 ++ e → o5 ≡ o0 ++ (a ++ (b ++ (c ++ (d ++ e))))
five o0 o1 o2 o3 o4 o5 a b c d e e1 e2 e3 e4 e5 = rw (e5, e4, e3, e2, e1) (simp append_assoc)

pub returns : goal.returns
returns c = five _ _ _ _ _ _ _ _ _ _ _ c.put_u16.ensures.items c.put_u16-2.ensures.items c.put_counted.ensures.items c.put_u64.ensures.items c.put_u64-2.ensures.items
