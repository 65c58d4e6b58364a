-- The client of a number in a world, once it has changed, and once it has changed twice.
use Rattle.std.proofs.Common.{◌≡◌, ℕ, Bool, true, false, cond, List, [], ◌∷◌, ◌++◌, Option, Some}
use Rattle.std.proofs.Common.{map, refl, sym, ap, ap₂, ◌∙◌, subst, append_assoc}
use Rattle.std.specs.Prelude.{find, ◌==◌}
use Rattle.std.proofs.lemmas.Bool.{cond-true, cond-false}
use Rattle.std.proofs.lemmas.Bool.Decides.{Decides-eqb}
use Rattle.kx_message.specs.declared.message.Message.{Message}
use Rattle.kx_model.specs.Client.{Client}
use Rattle.kx_model.specs.World.{World, client_at, with_client}

-- the client of that number is replaced
abbrev put : ℕ → Client → List Client → List Client
put n c clients = map (λ d. cond (d.number == n) c d) clients

-- the client of that number
abbrev look : ℕ → List Client → Option Client
look n clients = find (λ c. c.number == n) clients

is_that : (n : ℕ) (c : Client) → c.number ≡ n → (c.number == n) ≡ true
is_that n c e = (Decides-eqb c.number n).1 e

-- a second replacement undoes the first
module _ (n : ℕ) (c d : Client) (is : c.number ≡ n) where
  one_twice : (x : Client) (b : Bool) → (x.number == n) ≡ b
      → cond ((cond b c x).number == n) d (cond b c x) ≡ cond b d x
  one_twice x true e = cond-true (c.number == n) d c (is_that n c is)
  one_twice x false e = cond-false (x.number == n) d x e

  put_twice : (clients : List Client) → put n d (put n c clients) ≡ put n d clients
  put_twice [] = refl
  put_twice (x ∷ xs) =
      ap₂ (λ (y : Client) (ys : List Client). y ∷ ys) (one_twice x (x.number == n) refl)
      (put_twice xs)

-- what is found has the number that was looked for
number_found : (n : ℕ) (clients : List Client) (c : Client) → look n clients ≡ Some c
    → c.number ≡ n
number_found n [] c there = absurd cc
number_found n (x ∷ xs) c there = found (x.number == n) refl (number_found n xs c) there
  where
    found : (b : Bool) → (x.number == n) ≡ b → (look n xs ≡ Some c → c.number ≡ n)
        → cond b (Some x) (look n xs) ≡ Some c → c.number ≡ n
    found true e rest h =
        let same : x ≡ c = cc in
        ap (λ (y : Client). y.number) (sym same) ∙ (Decides-eqb x.number n).0 e
    found false e rest h = rest h

-- who replaced it is found
put_found : (n : ℕ) (clients : List Client) (b c : Client) → c.number ≡ n
    → look n clients ≡ Some b → look n (put n c clients) ≡ Some c
put_found n [] b c is there = absurd cc
put_found n (x ∷ xs) b c is there =
    found (x.number == n) refl (put_found n xs b c is) there
  where
    found : (t : Bool) → (x.number == n) ≡ t
        → (look n xs ≡ Some b → look n (put n c xs) ≡ Some c)
        → cond t (Some x) (look n xs) ≡ Some b
        → cond ((cond t c x).number == n) (Some (cond t c x)) (look n (put n c xs)) ≡ Some c
    found true e rest h =
        cond-true (c.number == n) (Some c) (look n (put n c xs)) (is_that n c is)
    found false e rest h =
        cond-false (x.number == n) (Some x) (look n (put n c xs)) e ∙ rest h

------ in a world

pub found_number : (w : World) (n : ℕ) (c : Client) → client_at w n ≡ Some c → c.number ≡ n
found_number w n c there = number_found n w.clients c there

-- the changed client is found
pub found_changed : (w : World) (n : ℕ) (b c : Client) (sent : List Message)
    → client_at w n ≡ Some b → c.number ≡ n → client_at (with_client w c sent) n ≡ Some c
found_changed w n b c sent there is =
    subst (λ (k : ℕ). look n (put k c w.clients) ≡ Some c) (sym is)
    (put_found n w.clients b c is there)

-- a client that changed twice is as if it had changed once, and handed out all messages then
pub changed_twice : (w : World) (c d : Client) (sent more : List Message) → d.number ≡ c.number
    → with_client (with_client w c sent) d more ≡ with_client w d (sent ++ more)
changed_twice w c d sent more same =
    let clients : put d.number d (put c.number c w.clients) ≡ put d.number d w.clients =
    subst (λ (k : ℕ). put d.number d (put k c w.clients) ≡ put d.number d w.clients) same
    (put_twice d.number c d (sym same) w.clients) in
    ap₂ (λ (cs : List Client) (ms : List Message). record w { clients = cs; sent = ms }) clients
    (append_assoc w.sent sent more)
