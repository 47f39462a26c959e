-- What a frame holds that was taken from a stream.
use Rattle.std.specs.Prelude.{◌≤◌, ◌++◌, ℕ, List, length, Option}
use Rattle.std.proofs.Common.{ap, sym, subst, arith, drop_at}
use Rattle.bincode_spec.specs.Format.{Format}
use Rattle.bincode_spec.specs.Meaning.{Meaning}
use Rattle.frames.specs.Frames.{framed_word}
use Rattle.frames.specs.declared.Frame.TheVariants as frames
use Rattle.framed_store.specs.declared.records.Content.{Content}
use Rattle.framed_store.specs.declared.records.Content.TheVariants.{Value, Damaged, Undecodable, Longer}
use Rattle.framed_store.specs.declared.records.Next.{Next}
use Rattle.framed_store.specs.declared.records.Next.TheVariants as next
use Rattle.framed_store.specs.Steps.{IsWhole}
use Rattle.framed_store.specs.Streams.{IsFront, TakesFront, LeavesAfter}
use Rattle.framed_store.specs.Told.{IsContent, IsNext}
use Rattle.framed_store.proofs.Fronts.{same-word, damaged-on}
use Rattle.framed_store.proofs.Listings.{record-there}
use Rattle.framed_store.proofs.Taken.{whole-on, reads-on, torn-ends, taken-whole}

module _ {A : Type 0} (F : Format Meaning) (limit : Option ℕ) (decodes_to : Meaning → A → Type 0) (most : ℕ) where
  -- a whole frame has the same word with what follows it
  content-on : (front left : List ℕ) (size : ℕ) (content : Content A) → IsWhole most front size → IsContent F limit decodes_to (framed_word front) content →
      IsWhole most (front ++ left) size × IsContent F limit decodes_to (framed_word (front ++ left)) content
  content-on front left size content w h =
      let there = w.0.1 in
      let four : 4 ≤ length front = omega (arith, there) in
      (whole-on most front left size w, subst (λ z. IsContent F limit decodes_to z content) (sym (same-word front left four there)) h)

  -- what is told of the bytes that were taken is told of all
  pub next-on : (front left : List ℕ) → IsFront most front left → (n : Next A) → IsNext F limit decodes_to most front n → IsNext F limit decodes_to most (front ++ left) n
  next-on front left f next.End h = reads-on most front left f frames.End h
  next-on front left f next.Torn h = reads-on most front left f frames.Torn h
  next-on front left f (next.TooLong n) h = reads-on most front left f (frames.TooLong n) h
  next-on front left f (next.Record size Damaged) h = damaged-on most front left size h
  next-on front left f (next.Record size (Value v)) h = content-on front left size (Value v) h.0 h.1
  next-on front left f (next.Record size (Undecodable why)) h = content-on front left size (Undecodable why) h.0 h.1
  next-on front left f (next.Record size (Longer taken)) h = content-on front left size (Longer taken) h.0 h.1

  -- and what follows it is left
  pub left-on : (front left : List ℕ) → IsFront most front left → (n : Next A) → IsNext F limit decodes_to most front n → LeavesAfter (front ++ left) n left
  left-on front left f next.End h = sym (ap (λ z. z ++ left) h)
  left-on front left f next.Torn h = torn-ends most front left f h
  left-on front left f (next.TooLong n) h =
      let over = h.2 in
      let name = h.1 in sym (drop_at front left 4 (f.too_long h.0 (omega (arith, over, name))))
  left-on front left f (next.Record size content) h =
      let there = record-there F limit decodes_to most front size content h in sym (taken-whole most front left size f there.0 there.1).1

  pub next-taken : (front old new : List ℕ) → TakesFront most front old new → (n : Next A) → IsNext F limit decodes_to most front n → IsNext F limit decodes_to most old n
  next-taken front old new t n h = subst (λ z. IsNext F limit decodes_to most z n) (sym t.parts) (next-on front new t.is_front n h)

  pub left-taken : (front old new : List ℕ) → TakesFront most front old new → (n : Next A) → IsNext F limit decodes_to most front n → LeavesAfter old n new
  left-taken front old new t n h = subst (λ z. LeavesAfter z n new) (sym t.parts) (left-on front new t.is_front n h)
