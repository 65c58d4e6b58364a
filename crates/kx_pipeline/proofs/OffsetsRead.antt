-- What the offsets partition answers to a fetch of an offset is a number of 64 bits, whatever its
-- log has: it was read of eight bytes, or is -1.
use Rattle.std.proofs.Common.{◌^◌, ℕ, suc, ℤ, pos, negsuc, Bool, true, false, ◌&&◌}
use Rattle.std.proofs.Common.{List, [], ◌∷◌, ◌==◌, Option, Some, None, All, arith, drop, lit<}
use Rattle.std.proofs.Common.{◌-◌, nat_lt}
use Rattle.std.specs.Prelude.{IfSome, bytes_eq, filter_map, unwrap_or}
use Rattle.std.specs.Int.{cast_signed, w16, w64}
use Rattle.std.specs.Int.RustNames.{FitsSigned}
use Rattle.std.specs.List.{cons_option, last_or}
use Rattle.std.proofs.lemmas.Bool.{cond_both, ltb-false, ltb-true}
use Rattle.std.proofs.lemmas.List.Elements.{All-cons, All-head, All-nil, All-tail}
use Rattle.kx_varint.specs.BigEndian.{unsigned_at}
use Rattle.kx_varint.specs.Text.{◌>>=◌}
use Rattle.kx_message.specs.declared.code.ErrorCode.TheVariants.{NoError, UnstableOffsetCommit}
use Rattle.kx_message.specs.Values.{name_with, partition_with, where_true}
use Rattle.kx_batch.specs.Record.{Record}
use Rattle.kx_model.specs.Groups.{Fact, Offset, Joined, Left, Dropped, committed_in, fact_in}
use Rattle.kx_model.specs.Groups.{fact_of}
use Rattle.kx_model.specs.Groups.{is_pending, marked_offset, member_fact, of_length}
use Rattle.kx_model.specs.Groups.{OffsetAnswer, offset_fact, offset_fetch, offset_for, offsets_in}
use Rattle.kx_model.specs.Log.{Entry, Plain, Data, Control, Sequenced}
use Rattle.kx_laws.proofs.Lists.{All-flat_map}

------ numbers in two's complement

-- they have 64 bits, whatever is read
read_fits : (n : ℕ) → FitsSigned w64 (cast_signed w64 n)
read_fits n =
    cond_both (nat_lt n (2 ^ 63)) (pos n) (negsuc (2 ^ 64 - suc n)) (FitsSigned w64)
    (λ e. record { sfits = ltb-true n (2 ^ 63) e })
    (λ e. let high = ltb-false n (2 ^ 63) e in record { sfits = omega (arith, high) })

------ what a record says

abbrev InRange : Fact → Type 0
InRange (Offset group partition offset) = FitsSigned w64 offset
InRange (Joined group member) = Unit {0}
InRange (Left group member) = Unit {0}
InRange (Dropped group member) = Unit {0}

if_bound : {A B : Type 0} (P : B → Type 0) (o : Option A) (f : A → Option B)
    → ((x : A) → IfSome (f x) P) → IfSome (o >>= f) P
if_bound P None f h = tt
if_bound P (Some x) f h = h x

offset_in_range : (group : List ℕ) (partition : ℕ) (value : List ℕ)
    → IfSome (offset_fact group partition value) InRange
offset_in_range group partition value =
    if_bound InRange (of_length 8 value) _
    (λ bytes. if_bound InRange (partition_with partition) _ (λ input. read_fits _))

-- a fact of a member has no offset
member_in_range : (fact : List ℕ → ℕ → Fact) → ((group : List ℕ) (member : ℕ)
    → InRange (fact group member)) → (group : List ℕ) (partition : ℕ) (value : List ℕ)
    → IfSome (member_fact fact group partition value) InRange
member_in_range fact h group partition value =
    if_bound InRange (of_length 4 value) _
    (λ bytes. if_bound InRange (where_true (partition == 0) partition) _ (λ none. h group _))

kind_in_range : (kind : ℕ) (group : List ℕ) (partition : ℕ) (value : List ℕ)
    → IfSome (fact_in kind group partition value) InRange
kind_in_range kind group partition value =
    cond_both (kind == 1) (offset_fact group partition value) _ (λ o. IfSome o InRange)
    (λ e. offset_in_range group partition value)
    (λ e. cond_both (kind == 2) (member_fact Joined group partition value) _
    (λ o. IfSome o InRange) (λ e. member_in_range Joined (λ g m. tt) group partition value)
    (λ e. cond_both (kind == 3) (member_fact Left group partition value) _
    (λ o. IfSome o InRange) (λ e. member_in_range Left (λ g m. tt) group partition value)
    (λ e. cond_both (kind == 4) (member_fact Dropped group partition value) None
    (λ o. IfSome o InRange) (λ e. member_in_range Dropped (λ g m. tt) group partition value)
    (λ e. tt))))

fact_in_range : (r : Record) → IfSome (fact_of r) InRange
unfolding fact_of
fact_in_range r =
    if_bound InRange r.key _ (λ key. if_bound InRange r.value _
    (λ value. if_bound InRange (name_with (drop 4 key)) _
    (λ group. kind_in_range (unsigned_at w16 0 key) group (unsigned_at w16 2 key) value)))

------ what a log says

All-cons_option : {A : Type 0} (P : A → Type 0) (o : Option A) (xs : List A) → IfSome o P
    → All P xs → All P (cons_option o xs)
All-cons_option P None xs h more = more
All-cons_option P (Some x) xs h more = All-cons P x xs h more

All-filter_map : {A B : Type 0} (P : A → Type 0) (Q : B → Type 0) (f : A → Option B)
    → ((x : A) → P x → IfSome (f x) Q) → (xs : List A) → All P xs → All Q (filter_map f xs)
All-filter_map P Q f h [] all = All-nil Q
All-filter_map P Q f h (x ∷ xs) all =
    All-cons_option Q (f x) (filter_map f xs) (h x (All-head P x xs all))
    (All-filter_map P Q f h xs (All-tail P x xs all))

said_in_range : (records : List Record) → All InRange (filter_map fact_of records)
said_in_range [] = All-nil InRange
said_in_range (r ∷ records) =
    All-cons_option InRange (fact_of r) (filter_map fact_of records) (fact_in_range r)
    (said_in_range records)

if_true : {A : Type 0} (P : A → Type 0) (b : Bool) (x : A) → P x → IfSome (where_true b x) P
if_true P true x h = h
if_true P false x h = tt

offset_there : (group : List ℕ) (partition : ℕ) (fact : Fact) → InRange fact
    → IfSome (offset_for group partition fact) (FitsSigned w64)
offset_there group partition (Offset g p offset) h =
    if_true (FitsSigned w64) (bytes_eq g group && p == partition) offset h
offset_there group partition (Joined g member) h = tt
offset_there group partition (Left g member) h = tt
offset_there group partition (Dropped g member) h = tt

batch_in_range : (group : List ℕ) (partition : ℕ) (batch : Sequenced)
    → All (FitsSigned w64) (offsets_in group partition batch)
batch_in_range group partition batch =
    All-filter_map InRange (FitsSigned w64) (offset_for group partition)
    (offset_there group partition) (filter_map fact_of batch.records)
    (said_in_range batch.records)

entry_in_range : (counts : Sequenced → Bool) (group : List ℕ) (partition : ℕ) (entry : Entry)
    → All (FitsSigned w64) (committed_in counts group partition entry)
entry_in_range counts group partition (Plain records) = All-nil (FitsSigned w64)
entry_in_range counts group partition (Data batch) =
    cond_both (counts batch) (offsets_in group partition batch) [] (All (FitsSigned w64))
    (λ e. batch_in_range group partition batch) (λ e. All-nil (FitsSigned w64))
entry_in_range counts group partition (Control marker) = All-nil (FitsSigned w64)

last_in_range : (o : Option ℤ) (offsets : List ℤ) → IfSome o (FitsSigned w64)
    → All (FitsSigned w64) offsets → FitsSigned w64 (unwrap_or (last_or o offsets) (negsuc 0))
last_in_range None [] h all = record { sfits = lit< tt }
last_in_range (Some offset) [] h all = h
last_in_range o (offset ∷ offsets) h all =
    last_in_range (Some offset) offsets (All-head (FitsSigned w64) offset offsets all)
    (All-tail (FitsSigned w64) offset offsets all)

marked_in_range : (log : List Entry) (group : List ℕ) (partition : ℕ)
    → FitsSigned w64 (marked_offset log group partition)
unfolding marked_offset
marked_in_range log group partition =
    last_in_range None _ tt
    (All-flat_map (FitsSigned w64) _ log (λ entry there. entry_in_range _ group partition entry))

-- the answer to a fetch of an offset
pub fetched_offset : (log : List Entry) (group : List ℕ) (partition : ℕ) (stable : Bool)
    → FitsSigned w64 (offset_fetch log group partition stable).offset
fetched_offset log group partition stable =
    cond_both (stable && is_pending log group partition)
    (record { code = UnstableOffsetCommit; offset = negsuc 0 })
    (record { code = NoError; offset = marked_offset log group partition })
    (λ (a : OffsetAnswer). FitsSigned w64 a.offset) (λ e. record { sfits = lit< tt })
    (λ e. marked_in_range log group partition)
