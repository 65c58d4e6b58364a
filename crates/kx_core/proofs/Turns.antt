-- Which of the clients are processors, and what a client of either kind takes.
use Rattle.std.proofs.Common.{◌≡◌, ◌≤◌, ◌++◌, ℕ, cond, List, []}
use Rattle.std.proofs.Common.{◌∷◌, Option, Some, None, refl, sym, ap, ◌∙◌, arith, subst}
use Rattle.std.proofs.Common.{get_or, zero, suc}
use Rattle.std.specs.Prelude.{slice_get, slice_set}
use Rattle.std.proofs.lemmas.Option.{get_or_from_slice_get}
use Rattle.kx_core.specs.Clients.{TakesAt, TakesBy, all_of, client_in}
use Rattle.kx_client_node.specs.Clients.{any_store}
use Rattle.kx_core.specs.Clients.{clients_in, node_at, node_with}
use Rattle.kx_client_node.specs.Clients.{client_of, processing_in}
use Rattle.kx_core.specs.Clients.{processor_in, processors_in, with_node, with_one}
use Rattle.kx_client_node.specs.Clients.{state_of}
use Rattle.kx_client_node.specs.declared.any_client.AnyClient.{AnyClient}
use Rattle.kx_client_node.specs.declared.any_client.AnyClient.TheVariants as any
use Rattle.kx_system.proofs.Numbers.{step_number, turn_number}
use Rattle.kx_core.proofs.Rising.{Above, Rising, above_at, apart, equal, found, number_of, replaced}
use Rattle.kx_machine.specs.Meaning.{AtClient, AtProcessor, IsTaken, NodeState}
use Rattle.kx_machine.specs.declared.taken.Taken.{Taken}
use Rattle.kx_model.specs.Client.{Client}
use Rattle.kx_model.specs.Step.{Input, client_step}
use Rattle.kx_processor.specs.Running.{Running, processing_of, processor_of}
use Rattle.kx_system.specs.Processor.{Images, Processing, Processor, processor_step}
use Rattle.kx_system.specs.System.{with_processing}

module _ {F : Type 0} (image_of : F → Images) where
  abbrev Any : Type 0
  Any = AnyClient F

  abbrev number : Any → ℕ
  number = number_of client_of

  abbrev processors : List Any → List Processing
  processors xs = processors_in image_of xs

  -- what a client is beside itself
  abbrev beside : Any → Option Processing
  beside (any.Plain client) = None
  beside (any.Processor running) = Some (processing_of image_of running)

  ------ looking a processor up

  passes : (n : ℕ) (x : Any) (xs : List Any) → (number x ≡ n → ⊥)
      → processor_in (processors (x ∷ xs)) n ≡ processor_in (processors xs) n
  passes n (any.Plain client) xs h = refl
  passes n (any.Processor running) xs h =
      ap (λ b. cond b (Some (processing_of image_of running)) (processor_in (processors xs) n))
      (apart running.client.number n h)

  none_above : (low : ℕ) (xs : List Any) (n : ℕ) → Above client_of low xs → n ≤ low
      → processor_in (processors xs) n ≡ None
  none_above low [] n h le = refl
  none_above low (x ∷ xs) n h le =
      passes n x xs (λ e. omega (arith, e, h.0, le))
      ∙ none_above (number x) xs n h.1 (omega (arith, h.0, le))

  here : (x : Any) (xs : List Any) → Above client_of (number x) xs
      → processor_in (processors (x ∷ xs)) (number x) ≡ beside x
  here (any.Plain client) xs h = none_above client.number xs client.number h (omega arith)
  here (any.Processor running) xs h =
      ap (λ b. cond b (Some (processing_of image_of running))
      (processor_in (processors xs) running.client.number))
      (equal running.client.number running.client.number refl)

  first_is : (y x : Any) (xs : List Any) → y ≡ x → Above client_of (number y) xs
      → processor_in (processors (y ∷ xs)) (number x) ≡ beside x
  first_is y x xs same h =
      subst (λ (z : Any). processor_in (processors (y ∷ xs)) (number z) ≡ beside z) same
      (here y xs h)

  beside_above : (low : ℕ) (xs : List Any) (k : ℕ) (x : Any) → Above client_of low xs
      → slice_get xs k ≡ Some x → processor_in (processors xs) (number x) ≡ beside x
  beside_above low [] k x h is = absurd cc
  beside_above low (y ∷ xs) zero x h is =
      let same : y ≡ x = cc in first_is y x xs same h.1
  beside_above low (y ∷ xs) (suc k) x h is =
      passes (number x) y xs
      (λ e. omega (arith, e, above_at client_of (number y) xs k x h.1 is))
      ∙ beside_above (number y) xs k x h.1 is

  beside_at : (xs : List Any) (k : ℕ) (x : Any) → Rising client_of xs → slice_get xs k ≡ Some x
      → processor_in (processors xs) (number x) ≡ beside x
  beside_at [] k x h is = absurd cc
  beside_at (y ∷ xs) zero x h is = let same : y ≡ x = cc in first_is y x xs same h
  beside_at (y ∷ xs) (suc k) x h is =
      passes (number x) y xs (λ e. omega (arith, e, above_at client_of (number y) xs k x h is))
      ∙ beside_above (number y) xs k x h is

  node_is : (x : Any) → node_with (Some (client_of x)) (beside x) ≡ Some (state_of image_of x)
  node_is (any.Plain client) = refl
  node_is (any.Processor running) = refl

  -- the client at a place is that node
  node_there : (xs : List Any) (k : ℕ) (x : Any) → Rising client_of xs
      → slice_get xs k ≡ Some x
      → node_at (all_of image_of xs) (number x) ≡ Some (state_of image_of x)
  node_there xs k x h is =
      ap (λ c. node_with c (processor_in (processors xs) (number x)))
      (found client_of xs k x h is)
      ∙ ap (node_with (Some (client_of x))) (beside_at xs k x h is) ∙ node_is x

  ------ one in the place of another

  keeps : (n : ℕ) (p : Processing) (x : Any) (xs : List Any) → p.number ≡ n
      → (number x ≡ n → ⊥)
      → with_processing (processors (x ∷ xs)) p
      ≡ processing_in image_of x ++ with_processing (processors xs) p
  keeps n p (any.Plain client) xs is h = refl
  keeps n p (any.Processor running) xs is h =
      ap (λ b. cond b p (processing_of image_of running) ∷ with_processing (processors xs) p)
      (apart running.client.number p.number (λ e. h (e ∙ is)))

  all_keep : (low : ℕ) (p : Processing) (xs : List Any) → Above client_of low xs
      → p.number ≤ low → with_processing (processors xs) p ≡ processors xs
  all_keep low p [] h le = refl
  all_keep low p (x ∷ xs) h le =
      keeps p.number p x xs refl (λ e. omega (arith, e, h.0, le))
      ∙ ap (λ (ps : List Processing). processing_in image_of x ++ ps)
      (all_keep (number x) p xs h.1 (omega (arith, h.0, le)))

  -- this one, in the place of the processor of its number
  module _ (before after : Running F) (same : after.client.number ≡ before.client.number) where
    abbrev put : Processing
    put = processing_of image_of after

    put_first : (y : Any) (xs : List Any) → y ≡ any.Processor before
        → Above client_of (number y) xs
        → with_processing (processors (y ∷ xs)) put ≡ put ∷ processors xs
    put_first y xs is h =
        ap (λ (z : Any). with_processing (processors (z ∷ xs)) put) is
        ∙ ap (λ b. cond b put (processing_of image_of before)
        ∷ with_processing (processors xs) put)
        (equal before.client.number after.client.number (sym same))
        ∙ ap (λ (ps : List Processing). put ∷ ps)
        (all_keep (number y) put xs h (omega (arith, same, ap number is)))

    put_above : (low : ℕ) (xs : List Any) (k : ℕ) → Above client_of low xs
        → slice_get xs k ≡ Some (any.Processor before)
        → with_processing (processors xs) put
        ≡ processors (slice_set xs k (any.Processor after))
    put_above low [] k h is = absurd cc
    put_above low (y ∷ xs) zero h is =
        let first : y ≡ any.Processor before = cc in put_first y xs first h.1
    put_above low (y ∷ xs) (suc k) h is =
        keeps after.client.number put y xs refl
        (λ e. omega (
          arith,
          e,
          same,
          above_at client_of (number y) xs k (any.Processor before) h.1 is,
        ))
        ∙ ap (λ (ps : List Processing). processing_in image_of y ++ ps)
        (put_above (number y) xs k h.1 is)

    pub put_at : (xs : List Any) (k : ℕ) → Rising client_of xs
        → slice_get xs k ≡ Some (any.Processor before)
        → with_processing (processors xs) put
        ≡ processors (slice_set xs k (any.Processor after))
    put_at [] k h is = absurd cc
    put_at (y ∷ xs) zero h is =
        let first : y ≡ any.Processor before = cc in put_first y xs first h
    put_at (y ∷ xs) (suc k) h is =
        keeps after.client.number put y xs refl
        (λ e. omega (
          arith,
          e,
          same,
          above_at client_of (number y) xs k (any.Processor before) h is,
        ))
        ∙ ap (λ (ps : List Processing). processing_in image_of y ++ ps)
        (put_above (number y) xs k h is)

  -- in the place of one that is no processor
  plain_at : (xs : List Any) (k : ℕ) (before after : Client)
      → slice_get xs k ≡ Some (any.Plain before)
      → processors (slice_set xs k (any.Plain after)) ≡ processors xs
  plain_at [] k before after is = absurd cc
  plain_at (y ∷ xs) zero before after is =
      let same : y ≡ any.Plain before = cc in
      ap (λ (z : Any). processing_in image_of z ++ processors xs) (sym same)
  plain_at (y ∷ xs) (suc k) before after is =
      ap (λ (ps : List Processing). processing_in image_of y ++ ps)
      (plain_at xs k before after is)

  -- of the same kind and number
  abbrev IsAnother : Any → Any → Type 0
  IsAnother (any.Plain before) (any.Plain after) = after.number ≡ before.number
  IsAnother (any.Plain before) (any.Processor after) = ⊥
  IsAnother (any.Processor before) (any.Plain after) = ⊥
  IsAnother (any.Processor before) (any.Processor after) =
      after.client.number ≡ before.client.number

  record IsPut (xs : List Any) (k : ℕ) (after : Any) : Type 0 where
    rising : Rising client_of (slice_set xs k after)
    all_is : all_of image_of (slice_set xs k after)
        ≡ with_node (all_of image_of xs) (state_of image_of after)

  put_in : (xs : List Any) (k : ℕ) (x after : Any) → Rising client_of xs
      → slice_get xs k ≡ Some x → IsAnother x after → IsPut xs k after
  put_in xs k (any.Plain before) (any.Plain after) h is same =
      let done = replaced client_of xs k (any.Plain before) (any.Plain after) h is same in record {
        rising = done.1;
        all_is = ap (λ (cs : List Client). record {
          clients = cs;
          processors = processors (slice_set xs k (any.Plain after));
        }) (sym done.0)
            ∙ ap (λ (ps : List Processing). record {
              clients = with_one (clients_in xs) after;
              processors = ps;
            }) (plain_at xs k before after is);
      }
  put_in xs k (any.Plain before) (any.Processor after) h is same = absurd same
  put_in xs k (any.Processor before) (any.Plain after) h is same = absurd same
  put_in xs k (any.Processor before) (any.Processor after) h is same =
      let done = replaced client_of xs k (any.Processor before) (any.Processor after) h is same in
      record {
        rising = done.1;
        all_is = ap (λ (cs : List Client). record {
          clients = cs;
          processors = processors (slice_set xs k (any.Processor after));
        }) (sym done.0)
            ∙ ap (λ (ps : List Processing). record {
              clients = with_one (clients_in xs) after.client;
              processors = ps;
            }) (sym (put_at before after same xs k h is));
      }

  ------ taking

  same_client : (c d : Client) → AtClient c ≡ AtClient d → c ≡ d
  same_client c d e = cc

  same_processor : (p q : Processor) → AtProcessor p ≡ AtProcessor q → p ≡ q
  same_processor p q e = cc

  -- a step leaves a client its kind and its number
  stays : (x after : Any) (input : Input) (taken : Taken)
      → IsTaken (state_of image_of x) input any_store (λ s. s ≡ state_of image_of after) taken
      → IsAnother x after
  stays (any.Plain c) (any.Plain d) input taken t =
      ap (λ (e : Client). e.number) (sym (same_client (client_step c input).state d t.stands))
      ∙ step_number c input
  stays (any.Plain c) (any.Processor running) input taken t =
      absurd (let e = t.stands in cc)
  stays (any.Processor running) (any.Plain c) input taken t =
      absurd (let e = t.stands in cc)
  stays (any.Processor running) (any.Processor next) input taken t =
      let p = processor_of image_of running in
      ap (λ (q : Processor). q.client.number)
      (sym (same_processor (processor_step p input).state (processor_of image_of next) t.stands))
      ∙ turn_number p input

  same_kind : (x after : Any) → state_of image_of after ≡ state_of image_of x
      → IsAnother x after
  same_kind (any.Plain c) (any.Plain d) e =
      ap (λ (x : Client). x.number) (same_client d c e)
  same_kind (any.Plain c) (any.Processor running) e = absurd cc
  same_kind (any.Processor running) (any.Plain c) e = absurd cc
  same_kind (any.Processor running) (any.Processor next) e =
      ap (λ (q : Processor). q.client.number)
      (same_processor (processor_of image_of next) (processor_of image_of running) e)

  -- the client that was found by its place
  module _ (xs : List Any) (place n : ℕ) (x one : Any) (rising : Rising client_of xs)
      (there : slice_get xs place ≡ Some one) (is : number one ≡ n)
      (at : x ≡ get_or xs place x) where
    same : x ≡ one
    same = at ∙ get_or_from_slice_get xs place one x there

    here_is : slice_get xs place ≡ Some x
    here_is = there ∙ ap Some (sym same)

    number_is : number x ≡ n
    number_is = ap number same ∙ is

    pub looked_up : client_in (clients_in xs) n ≡ Some (client_of x)
    looked_up = subst (λ (m : ℕ). client_in (clients_in xs) m ≡ Some (client_of x)) number_is
        (found client_of xs place x rising here_is)

    node_found : node_at (all_of image_of xs) n ≡ Some (state_of image_of x)
    node_found = subst (λ (m : ℕ). node_at (all_of image_of xs) m ≡ Some (state_of image_of x))
        number_is (node_there xs place x rising here_is)

    pub taken_at : (after : Any) (input : Input) (taken : Taken)
        → IsTaken (state_of image_of x) input any_store (λ s. s ≡ state_of image_of after) taken
        → Rising client_of (slice_set xs place after)
        × TakesAt (all_of image_of xs) (all_of image_of (slice_set xs place after)) n input
        (Some taken)
    taken_at after input taken t =
        let put = put_in xs place x after rising here_is (stays x after input taken t) in (
          put.rising,
          subst (λ (o : Option NodeState). TakesBy (all_of image_of xs)
              (all_of image_of (slice_set xs place after)) input o (Some taken))
              (sym node_found)
              (record { after = state_of image_of after; takes = t; new_is = put.all_is }),
        )

    -- for want of memory nothing is changed
    pub refused_at : (after : Any) → state_of image_of after ≡ state_of image_of x
        → Rising client_of (slice_set xs place after)
        × (all_of image_of (slice_set xs place after) ≡ all_of image_of xs)
    refused_at after e =
        let put = put_in xs place x after rising here_is (same_kind x after e) in
        let still = put_in xs place x x rising here_is (same_kind x x refl) in (
          put.rising,
          put.all_is ∙ ap (with_node (all_of image_of xs)) e ∙ sym still.all_is
              ∙ ap (all_of image_of) (unchanged xs place here_is),
        )
      where
        unchanged : (ys : List Any) (k : ℕ) → slice_get ys k ≡ Some x → slice_set ys k x ≡ ys
        unchanged [] k h = refl
        unchanged (y ∷ ys) zero h = let first : y ≡ x = cc in ap (λ z. z ∷ ys) (sym first)
        unchanged (y ∷ ys) (suc k) h = ap (λ zs. y ∷ zs) (unchanged ys k h)

  -- one more behind the others
  pub clients_push : (xs : List Any) (x : Any)
      → clients_in (xs ++ x ∷ []) ≡ clients_in xs ++ client_of x ∷ []
  clients_push [] x = refl
  clients_push (y ∷ xs) x = ap (λ (cs : List Client). client_of y ∷ cs) (clients_push xs x)

  one_behind : (x : Any) → processors (x ∷ []) ≡ processing_in image_of x
  one_behind (any.Plain client) = refl
  one_behind (any.Processor running) = refl

  pub processors_push : (xs : List Any) (x : Any)
      → processors (xs ++ x ∷ []) ≡ processors xs ++ processing_in image_of x
  processors_push [] x = one_behind x
  processors_push (any.Plain client ∷ xs) x = processors_push xs x
  processors_push (any.Processor running ∷ xs) x =
      ap (λ (ps : List Processing). processing_of image_of running ∷ ps) (processors_push xs x)
