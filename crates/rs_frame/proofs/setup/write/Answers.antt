use Rattle.std.proofs.Common.{◌≡◌, ℕ, List, ◌++◌, append_assoc}
use Rattle.rs_frame.proofs.setup.write.Goals as goal

-- eight parts, one after the other
eight : (o0 o1 o2 o3 o4 o5 o6 o7 o8 a b c d e f g h : List ℕ) → o1 ≡ o0 ++ a → o2 ≡ o1 ++ b → o3 ≡ o2 ++ c → o4 ≡ o3 ++ d → o5 ≡ o4 ++ e → o6 ≡ o5 ++ f → o7 ≡ o6 ++ g → o8 ≡ o7 ++ h
    → o8 ≡ o0 ++ (a ++ (b ++ (c ++ (d ++ (e ++ (f ++ (g ++ h)))))))
eight o0 o1 o2 o3 o4 o5 o6 o7 o8 a b c d e f g h e1 e2 e3 e4 e5 e6 e7 e8 = rw (e8, e7, e6, e5, e4, e3, e2, e1) (simp append_assoc)

pub returns : goal.returns
returns c =
    let keepalive = rw c.get.ensures.value at c.put_u32.ensures.items in
    let lifetime = rw c.get-2.ensures.value at c.put_u32-2.ensures.items in
    record { items = eight _ _ _ _ _ _ _ _ _ _ _ _ _ _ _ _ _ c.put_u16.ensures.items c.put_u16-2.ensures.items keepalive lifetime c.put_token.ensures.items c.put_name.ensures.items c.put_name-2.ensures.items c.put_payload.ensures.items }
