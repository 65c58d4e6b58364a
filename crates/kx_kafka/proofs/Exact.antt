-- Requests are read exactly if a text spells them.
use Rattle.std.proofs.Common.{◌≡◌, ℕ, ℤ, pos, negsuc, ◌<◌, Bool, true, false, cond, ltb, eqb}
use Rattle.std.proofs.Common.{List, [], ◌∷◌, ◌++◌, length, Option, Some, None, Result, Ok, Err, refl}
use Rattle.std.proofs.Common.{sym, ap, ◌∙◌, subst}
use Rattle.std.specs.List.{find}
use Rattle.std.specs.Int.{w16}
use Rattle.std.proofs.lemmas.Bool.{eqb-true}
use Rattle.std.proofs.lemmas.List.{append-nil}
use Rattle.kx_varint.specs.Text.{IsBytes, ◌⊳◌}
use Rattle.kx_varint.proofs.FixedWidth.{wide16}
use Rattle.kx_kafka_types.specs.declared.version.Version.{Version}
use Rattle.kx_kafka_types.specs.declared.fault.KafkaFault.{KafkaFault}
use Rattle.kx_kafka_types.specs.declared.fault.KafkaFault.TheVariants as fault
use Rattle.kx_kafka_types.specs.Schema.{Values}
use Rattle.kx_kafka_types.specs.Reading.{◌>>=◌}
use Rattle.kx_kafka_types.specs.Spelling.{SpellsNullable, SpellsEnd, Spells}
use Rattle.kx_kafka_types.proofs.Agree.{Agrees, ok_is, same, after, mapped, nothing}
use Rattle.kx_kafka_types.proofs.Exact.{fields_agree, nullable_agrees, end_agrees}
use Rattle.kx_kafka.specs.declared.api_key.ApiKey.{ApiKey}
use Rattle.kx_kafka.specs.declared.api_key.ApiKey.TheVariants as api
use Rattle.kx_kafka.specs.Layouts.{request_front}
use Rattle.kx_kafka.specs.Apis.{number_of, all_keys, key_with, first_version, last_version}
use Rattle.kx_kafka.specs.Apis.{flexible_from, is_from, version_with, request_fields}
use Rattle.kx_kafka.specs.Requests.{Header, Body, plain, value_or, header_at, body_at, body_behind}
use Rattle.kx_kafka.specs.Requests.{whole, request_at}
use Rattle.kx_kafka.specs.Spelling.{SpellsHeader, SpellsRequest}

------ keys and versions

abbrev some_of : {A : Type 0} → A → Option A
some_of x = Some x

some_is : {A : Type 0} (x y : A) → some_of x ≡ some_of y → x ≡ y
some_is x y e = cc

found_case : (b : Bool) (n : ℕ) (k : ApiKey) (o : Option ApiKey) (found : ApiKey)
    → b ≡ eqb (number_of k) n → (o ≡ Some found → number_of found ≡ n)
    → cond b (Some k) o ≡ Some found → number_of found ≡ n
found_case true n k o found e next h =
    subst (λ (a : ApiKey). number_of a ≡ n) (some_is k found h) (eqb-true (number_of k) n (sym e))
found_case false n k o found e next h = next h

found_is : (n : ℕ) (keys : List ApiKey) (found : ApiKey)
    → find (λ k. eqb (number_of k) n) keys ≡ Some found → number_of found ≡ n
found_is n [] found h = absurd cc
found_is n (k ∷ keys) found h =
    found_case (eqb (number_of k) n) n k (find (λ k. eqb (number_of k) n) keys) found refl
    (found_is n keys found) h

key_is : (z : ℤ) (found : ApiKey) → key_with z ≡ Some found → z ≡ pos (number_of found)
unfolding key_with
key_is (pos n) found e = ap pos (sym (found_is n all_keys found e))
key_is (negsuc n) found e = absurd cc

key_back : (k : ApiKey) → key_with (pos (number_of k)) ≡ Some k
unfolding key_with
key_back api.Produce = refl
key_back api.Fetch = refl
key_back api.ListOffsets = refl
key_back api.Metadata = refl
key_back api.OffsetCommit = refl
key_back api.OffsetFetch = refl
key_back api.FindCoordinator = refl
key_back api.JoinGroup = refl
key_back api.Heartbeat = refl
key_back api.LeaveGroup = refl
key_back api.SyncGroup = refl
key_back api.ApiVersions = refl
key_back api.InitProducerId = refl
key_back api.AddPartitionsToTxn = refl
key_back api.AddOffsetsToTxn = refl
key_back api.EndTxn = refl
key_back api.TxnOffsetCommit = refl

two_none : (a b : Bool) (v w : Version) → cond a None (cond b None (Some v)) ≡ Some w → v ≡ w
two_none true b v w e = absurd cc
two_none false true v w e = absurd cc
two_none false false v w e = some_is v w e

version_is : (k : ApiKey) (z : ℤ) (v : Version) → version_with k z ≡ Some v → z ≡ pos v.number
unfolding version_with
version_is k (pos n) v e =
    ap (λ (w : Version). pos w.number)
    (two_none (ltb n (first_version k)) (ltb (last_version k) n)
    (record { number = n; flexible = is_from (flexible_from k) n }) v e)
version_is k (negsuc n) v e = absurd cc

value_is : {A : Type 0} (f : KafkaFault) (o : Option A) (x : A) → value_or f o ≡ Ok x
    → o ≡ Some x
value_is f None x e = absurd cc
value_is f (Some y) x e = ap some_of (ok_is y x e)

------ the header

abbrev Spoken : Header → List ℕ → Type 0
Spoken h text = (version_with h.api (pos h.version.number) ≡ Some h.version) × SpellsHeader h text

abbrev Front : Type 0
Front = ℤ × (ℤ × (ℤ × Unit {0}))

abbrev header_of : ApiKey → Version → ℤ → Option (List ℕ) → Header
header_of key version correlation client = record {
  api = key;
  version = version;
  correlation_id = correlation;
  client_id = client;
}

-- what is left behind the front
abbrev Ended : ApiKey → Version → ℤ → Option (List ℕ) → Header → List ℕ → Type 0
Ended key version z client h text =
    (u : Unit {0}) × (header_of key version z client ≡ h) × SpellsEnd version text

abbrev Named : ApiKey → Version → ℤ → Header → List ℕ → Type 0
Named key version z h text =
    (client : Option (List ℕ))
    × (SpellsNullable plain w16 client ⊳ Ended key version z client h) text

abbrev Versioned : ApiKey → ℤ → ℤ → Header → List ℕ → Type 0
Versioned key n z h text =
    (version : Version)
    × ((λ t. (value_or fault.Version (version_with key n) ≡ Ok version) × (t ≡ [])) ⊳
    Named key version z h) text

abbrev Keyed : Front → Header → List ℕ → Type 0
Keyed front h text =
    (key : ApiKey)
    × ((λ t. (value_or fault.Key (key_with front.0) ≡ Ok key) × (t ≡ [])) ⊳
    Versioned key front.1.0 front.1.1.0 h) text

joined : (P : List ℕ → Type 0) (t front back : List ℕ) → t ≡ front ++ back → front ≡ [] → P back
    → P t
joined P t front back e f p = subst P (sym (e ∙ ap (λ (x : List ℕ). x ++ back) f)) p

header_to : (h : Header) (t : List ℕ) (front : Front)
    → (Spells plain request_front front ⊳ Keyed front h) t → Spoken h t
header_to h t front j =
    let a = j.second in
    let key = value_is fault.Key (key_with front.0) a.0 a.1.first.0 in
    let b = a.1.second in
    let version = value_is fault.Version (version_with a.0 front.1.0) b.0 b.1.first.0 in
    let c = b.1.second in
    let d = c.1.second in
    let back : (SpellsNullable plain w16 c.0 ⊳ SpellsEnd b.0) j.back =
    joined (SpellsNullable plain w16 c.0 ⊳ SpellsEnd b.0) j.back a.1.front a.1.back a.1.parts
    a.1.first.1
    (joined (SpellsNullable plain w16 c.0 ⊳ SpellsEnd b.0) a.1.back b.1.front b.1.back b.1.parts
    b.1.first.1 (record {
      front = c.1.front;
      back = c.1.back;
      first = c.1.first;
      second = d.2;
      parts = c.1.parts;
    })) in
    let number = version_is a.0 front.1.0 b.0 version in
    let is : front ≡ (pos (number_of a.0), (pos b.0.number, (front.1.1.0, tt))) =
    ap (λ (z : ℤ). (z, front.1)) (key_is front.0 a.0 key)
    ∙ ap (λ (z : ℤ). (pos (number_of a.0), (z, front.1.1))) number in
    subst (λ (k : Header). Spoken k t) d.1 (
      subst (λ (z : ℤ). version_with a.0 z ≡ Some b.0) number version,
      record {
        front = j.front;
        back = j.back;
        first = subst (λ (f : Front). Spells plain request_front f j.front) is j.first;
        second = back;
        parts = j.parts;
      },
    )

header_from : (h : Header) (t : List ℕ) → Spoken h t
    → (front : Front) × (Spells plain request_front front ⊳ Keyed front h) t
header_from h t s =
    let j = s.1 in
    let k = j.second in (
      (pos (number_of h.api), (pos h.version.number, (h.correlation_id, tt))),
      record {
        front = j.front;
        back = j.back;
        first = j.first;
        second = (
          h.api,
          record {
            front = [];
            back = j.back;
            first = (ap (value_or fault.Key) (key_back h.api), refl);
            second = (
              h.version,
              record {
                front = [];
                back = j.back;
                first = (ap (value_or fault.Version) s.0, refl);
                second = (
                  h.client_id,
                  record {
                    front = k.front;
                    back = k.back;
                    first = k.first;
                    second = (tt, refl, k.second);
                    parts = k.parts;
                  },
                );
                parts = refl;
              },
            );
            parts = refl;
          },
        );
        parts = j.parts;
      },
    )

header_agrees : Agrees Spoken header_at
unfolding header_at
header_agrees = same
    (after (fields_agree plain request_front) (λ front.
    after (nothing (value_or fault.Key (key_with front.0))) (λ key.
    after (nothing (value_or fault.Version (version_with key front.1.0))) (λ version.
    after (nullable_agrees plain w16 wide16) (λ client.
    mapped (end_agrees version) (λ (u : Unit {0}). header_of key version front.1.1.0 client))))))
    (λ h t s. header_to h t s.0 s.1)
    header_from

------ the whole

abbrev body_with : (key : ApiKey) → Values (request_fields key) → Body
body_with key v = (key, v)

abbrev both : Header → Body → Header × Body
both h b = (h, b)

body_agrees : (key : ApiKey) (version : Version)
    → Agrees (λ (b : Body) text. (v : Values (request_fields key)) × (body_with key v ≡ b)
    × Spells version (request_fields key) v text) (body_at key version)
unfolding body_at
body_agrees key version =
    mapped (fields_agree version (request_fields key)) (λ v. (key, v))

abbrev Request : Header × Body → List ℕ → Type 0
Request x text = SpellsRequest x.0 x.1 text

request_to : (x : Header × Body) (t : List ℕ) (h : Header)
    → (Spoken h ⊳ (λ u. (b : Body) × (both h b ≡ x) × ((v : Values (request_fields h.api))
    × (body_with h.api v ≡ b) × Spells h.version (request_fields h.api) v u))) t
    → Request x t
request_to x t h j =
    let b = j.second in
    let v = b.2 in
    let body : Body = (h.api, v.0) in
    subst (λ (y : Header × Body). Request y t) (ap (λ (c : Body). (h, c)) v.1 ∙ b.1) (record {
      spoken = j.first.0;
      asked = refl;
      parts = record {
        front = j.front;
        back = j.back;
        first = j.first.1;
        second = v.2;
        parts = j.parts;
      };
    })

request_in : (h : Header) (key : ApiKey) (v : Values (request_fields key)) (t : List ℕ)
    → key ≡ h.api → version_with h.api (pos h.version.number) ≡ Some h.version
    → (SpellsHeader h ⊳ Spells h.version (request_fields key) v) t
    → (Spoken h ⊳ (λ u. (b : Body) × (both h b ≡ both h (body_with key v))
    × ((w : Values (request_fields h.api)) × (body_with h.api w ≡ b)
    × Spells h.version (request_fields h.api) w u))) t
request_in h key v t e spoken j =
    let T : (k : ApiKey) → Type 0 =
    λ k. (w : Values (request_fields k)) × (body_with k w ≡ body_with key v)
    × Spells h.version (request_fields k) w j.back in
    let found : T h.api = subst T e (v, refl, j.second) in
    record {
      front = j.front;
      back = j.back;
      first = (spoken, j.first);
      second = (body_with key v, refl, found);
      parts = j.parts;
    }

pub request_agrees : Agrees Request (header_at >>= body_behind)
request_agrees = same
    (after header_agrees (λ h. mapped (body_agrees h.api h.version) (λ b. (h, b))))
    (λ x t s. request_to x t s.0 s.1)
    (λ x t s. (x.0, request_in x.0 x.1.0 x.1.1 t s.asked s.spoken s.parts))

------ nothing is left

whole_is : {A : Type 0} (o : Result (A × List ℕ) KafkaFault) (x : A) → whole o ≡ Ok x
    → o ≡ Ok (x, [])
whole_is (Ok (y, [])) x e = ap (λ z. Ok (z, [])) (ok_is y x e)
whole_is (Ok (y, b ∷ bs)) x e = absurd cc
whole_is (Err f) x e = absurd cc

pub request_takes : (text : List ℕ) (x : Header × Body) → IsBytes text
    → request_at text ≡ Ok x → SpellsRequest x.0 x.1 text
unfolding request_at
request_takes text x fits e =
    let t = request_agrees.takes text (x, []) fits
    (whole_is ((header_at >>= body_behind) text) x e) in
    subst (SpellsRequest x.0 x.1) (sym (t.parts ∙ append-nil t.text)) t.is

pub request_again : (h : Header) (b : Body) (text : List ℕ) → SpellsRequest h b text
    → request_at text ≡ Ok (h, b)
unfolding request_at
request_again h b text s =
    ap whole (ap (header_at >>= body_behind) (sym (append-nil text))
    ∙ request_agrees.again (h, b) text [] s)

pub request_longer : (h : Header) (b : Body) (text : List ℕ) (byte : ℕ) (more : List ℕ)
    → SpellsRequest h b text → request_at (text ++ byte ∷ more) ≡ Err fault.TooLong
unfolding request_at
request_longer h b text byte more s =
    ap whole (request_agrees.again (h, b) text (byte ∷ more) s)

pub request_cut : (h : Header) (b : Body) (text more : List ℕ) → IsBytes (text ++ more)
    → 0 < length more → SpellsRequest h b (text ++ more) → request_at text ≡ Err fault.Short
unfolding request_at
request_cut h b text more fits some s =
    ap whole (request_agrees.cuts (h, b) text more fits some s)
