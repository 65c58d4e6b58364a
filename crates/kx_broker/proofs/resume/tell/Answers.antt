use Rattle.std.proofs.Common.{◌≡◌, ◌+◌, ◌++◌, ◌∷◌, [], List}
use Rattle.std.proofs.Common.{length, take, sym, ap, ◌∙◌, arith, rules}
use Rattle.std.specs.Int.{w64}
use Rattle.std.specs.Int.RustNames.{FitsSigned}
use Rattle.std.proofs.lemmas.Int.{to_z-of_z}
use Rattle.std.proofs.lemmas.List.{length_push, length-take-le, take_all, take_more}
use Rattle.std.proofs.lemmas.Slice.Zip.{zip_end, zip_turn}
use Rattle.kx_broker.specs.Serving.{told, told_each}
use Rattle.kx_broker.proofs.Resuming.{told_more}
use Rattle.kx_message.specs.declared.message.Message.{Message}
use Rattle.kx_model.specs.Verification.{Parked, reply_to}
use Rattle.kx_partition.specs.declared.answer.Produced.{Produced}
use Rattle.kx_broker.proofs.resume.tell.Goals as goal

pub loop-request-init : goal.loop-request-init
loop-request-init c = record {
  many = ap length c.requires.empty;
  replies = c.requires.empty;
  capacity = c.requires.space;
}

pub push_reserved-requires : goal.push_reserved-requires
push_reserved-requires c =
    let t = zip_turn c.args.requests.now c.args.answers.now c.loop-request.yielded
    c.into_iter-request-iterator.result c.loop-request.request-iterator c.next.new.self
    c.next.result (search rules) (search rules) c.loop-request.yielded_by
    (c.in-Some.request, c.in-Some.answer) c.in-Some.is c.next.ensures.steps in
    let l = c.loop-request in
    omega (arith, t.0, l.invariant.many, l.invariant.capacity)

pub loop-request-preserved : goal.loop-request-preserved
loop-request-preserved c =
    let t = zip_turn c.args.requests.now c.args.answers.now c.loop-request.yielded
    c.into_iter-request-iterator.result c.loop-request.request-iterator c.next.new.self
    c.next.result (search rules) (search rules) c.loop-request.yielded_by
    (c.in-Some.request, c.in-Some.answer) c.in-Some.is c.next.ensures.steps in
    let l = c.loop-request in
    let n = length l.yielded in
    let q = c.in-Some.request.now in
    let a = c.in-Some.answer.now in
    let fits : FitsSigned w64 c.offset_of.result = search rules in
    let offset = to_z-of_z w64 c.offset_of.result fits ∙ c.offset_of.ensures in
    let longer = length_push l.yielded (c.in-Some.request, c.in-Some.answer) in
    let m = told q.request a in
    let pushed = c.push_reserved.ensures.items
    ∙ ap (λ (r : Message). l.replies.items ++ r ∷ []) (c.reply_to.ensures
    ∙ λ i. reply_to q.request (c.code.ensures i) (offset i)) in
    let first = length-take-le n c.args.requests.now (omega (arith, t.0)) in
    let second = length-take-le n c.args.answers.now (omega (arith, t.1)) in
    let both : told_each (take (n + 1) c.args.requests.now) (take (n + 1) c.args.answers.now)
    ≡ told_each (take n c.args.requests.now ++ q ∷ []) (take n c.args.answers.now ++ a ∷ []) =
    λ i. told_each
    ((take_more c.args.requests.now n q t.0
    ∙ ap (λ (p : Parked). take n c.args.requests.now ++ p ∷ []) (sym (t.2 q))) i)
    ((take_more c.args.answers.now n a t.1
    ∙ ap (λ (p : Produced). take n c.args.answers.now ++ p ∷ []) (sym (t.3 a))) i) in
    record {
      many = ap length pushed ∙ length_push l.replies.items m
          ∙ ap (λ n. n + 1) l.invariant.many ∙ sym longer;
      replies = pushed
          ∙ ap (λ (r : List Message). r ++ m ∷ []) l.invariant.replies
          ∙ sym (told_more (take n c.args.requests.now) (take n c.args.answers.now) q a
          (second ∙ sym first))
          ∙ sym both
          ∙ ap (λ m. told_each (take m c.args.requests.now) (take m c.args.answers.now))
          (sym longer);
      capacity = omega (arith, l.invariant.capacity, c.push_reserved.ensures.capacity);
    }

pub returns : goal.returns
returns c =
    let e = zip_end c.args.requests.now c.args.answers.now c.loop-request.yielded
    c.into_iter-request-iterator.result c.loop-request.request-iterator c.next.new.self
    c.next.result (search rules) (search rules) c.loop-request.yielded_by
    c.in-None.is c.next.ensures.steps in
    let n = length c.loop-request.yielded in
    c.loop-request.invariant.replies
    ∙ λ i. told_each
    (take_all n c.args.requests.now (omega (arith, e, c.requires.same)) i)
    (take_all n c.args.answers.now (omega (arith, e, c.requires.same)) i)
