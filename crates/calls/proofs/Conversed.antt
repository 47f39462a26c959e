-- What a caller reads is what the service answered.
use Rattle.std.specs.Prelude.{◌≡◌, ◌^◌, ◌<◌, ◌++◌, ℕ, List, [], ◌∷◌, length, drop, Bool, true, false, Option, Result, Ok, Err, IfOk, refl}
use Rattle.std.proofs.Common.{◌∙◌, ap, sym, subst, arith, append_assoc, append-nil}
use Rattle.std.proofs.Math.Seq.{drop-append_seam}
use Rattle.bincode_base.specs.Setting.{Setting}
use Rattle.bincode_types.specs.TypeLaws.{ExactWords}
use Rattle.bincode_types.specs.TypeWords.{Words}
use Rattle.frames.specs.Frames.{frame}
use Rattle.framed_store.proofs.Listings.{AreBytes, back-bytes, record-there, told-piece, ends-no-piece}
use Rattle.framed_store.specs.Appended.{FitsStore}
use Rattle.framed_store.specs.Pieces.{Piece, FrameOf, Damage, ArePieces, IsToldAs, bytes_of_all}
use Rattle.framed_store.specs.Steps.{EndsAt}
use Rattle.framed_store.specs.Told.{IsRecord}
use Rattle.framed_store.specs.declared.ending.Ending.{Ending}
use Rattle.framed_store.specs.declared.ending.Ending.TheVariants as endings
use Rattle.framed_store.specs.declared.records.Content.{Content}
use Rattle.framed_store.specs.declared.records.Content.TheVariants as contents
use Rattle.calls.specs.Calling.{AreFramesOf, AreReplies}
use Rattle.calls.specs.Conversing.{Converses}
use Rattle.calls.specs.Serving.{EndsInput, Replies, Serves}
use Rattle.calls.specs.declared.refusal.Refusal.{Refusal}

-- how a store ends as the input does
abbrev ending_of : Bool → Ending
ending_of false = endings.Whole
ending_of true = endings.Torn 0

ends-store : (most : ℕ) (is_torn : Bool) (rest : List ℕ) → EndsInput most rest is_torn → EndsAt most 0 rest (ending_of is_torn)
ends-store most false rest h = h
ends-store most true rest h = (refl, h)

-- the first of frames, from what follows it
module _ {T : Type 0} (W : Words T) (s : Setting) (limit : Option ℕ) (most : ℕ) (small : most < 2 ^ 32) (eq : T → T → Bool) (exact : ExactWords W eq) where
  abbrev Told : List ℕ → ℕ → Content T → Type 0
  Told = IsRecord (W.format s) limit W.decodes_to most

  record Begins (input : List ℕ) (value : T) (rest : List ℕ) (size : ℕ) (content : Content T) : Type 0 where
    is_told : IsToldAs eq (FrameOf value []) content
    left : drop size input ≡ rest
    are_bytes : AreBytes rest

  begins : (value : T) (word : List ℕ) (pieces : List (Piece T)) (behind input : List ℕ) → ArePieces W s limit most (FrameOf value word ∷ pieces) → AreBytes input →
      input ≡ bytes_of_all (FrameOf value word ∷ pieces) ++ behind → (size : ℕ) (content : Content T) → Told input size content → Begins input value (bytes_of_all pieces ++ behind) size content
  begins value word pieces behind input are all e size content h =
      let rest = bytes_of_all pieces ++ behind in
      let same : input ≡ frame word ++ rest = e ∙ append_assoc (frame word) (bytes_of_all pieces) behind in
      let bytes = subst AreBytes same all in
      let told = told-piece W s limit most small eq exact (FrameOf value word) rest are.0 bytes size content (subst (λ z. Told z size content) same h) in
      record {
        is_told = told.0;
        left = ap (drop size) same ∙ (ap (λ k. drop k (frame word ++ rest)) told.1 ∙ drop-append_seam (frame word) rest);
        are_bytes = back-bytes (frame word) rest bytes;
      }

module _ {S Q R : Type 0} (answers : S → Q → R → S → Type 0) (refuse : Refusal → R) (W : Words Q) (V : Words R) (s : Setting) (limit : Option ℕ) (most : ℕ) (small : most < 2 ^ 32) (eq : Q → Q → Bool)
    (exact : ExactWords W eq) (same : R → R → Bool) (kept : ExactWords V same) where
  abbrev Fits : R → Type 0
  Fits = FitsStore V s limit most

  -- one request, and its reply
  answered-one : (request framed : Q) → framed ≡ request → (content : Content Q) → IsToldAs eq (FrameOf framed []) content → (old mid new : S) (reply value : R) (requests : List Q) (values : List R) →
      Replies answers refuse Fits old content reply mid → same reply value ≡ true → Converses answers refuse Fits eq same mid requests values new → Converses answers refuse Fits eq same old (request ∷ requests) (value ∷ values) new
  answered-one request framed is (contents.Value read) told old mid new reply value requests values a equal more = (read, reply, mid, subst (λ z. eq z read ≡ true) is told, a, equal, more)
  answered-one request framed is contents.Damaged told old mid new reply value requests values a equal more = absurd told
  answered-one request framed is (contents.Undecodable why) told old mid new reply value requests values a equal more = absurd told
  answered-one request framed is (contents.Longer taken) told old mid new reply value requests values a equal more = absurd told

  -- what a caller has still to read: the frames of these replies
  pub record Unread (answered : List ℕ) (replies : List (Piece R)) (behind left : List ℕ) (values : List R) : Type 0 where
    pub are_replies : ArePieces V s limit most replies
    pub are_bytes : AreBytes answered
    pub answered_is : answered ≡ bytes_of_all replies ++ behind
    pub read : AreReplies V s limit most answered left values

  -- frames of requests are answered as requests equal to them, and what a caller reads of the replies is equal to these
  pub conversed : (requests : List Q) (pieces : List (Piece Q)) (input : List ℕ) (old : S) (replies : List (Piece R)) (new : S) (rest : List ℕ) (is_torn : Bool) (values : List R) →
      AreFramesOf requests pieces → ArePieces W s limit most pieces → AreBytes input → input ≡ bytes_of_all pieces → Serves answers refuse W V s limit most input old replies new rest → EndsInput most rest is_torn →
      (answered behind left : List ℕ) → Unread answered replies behind left values → length values ≡ length requests → Converses answers refuse Fits eq same old requests values new
  conversed [] [] input old [] new rest is_torn [] of are all e serves ends answered behind left u count = serves.0
  conversed [] [] input old [] new rest is_torn (value ∷ values) of are all e serves ends answered behind left u count = absurd (omega (arith, count))
  conversed [] [] input old (FrameOf reply word ∷ replies) new rest is_torn values of are all e serves ends answered behind left u count =
      let there = (record-there (W.format s) limit W.decodes_to most input serves.0 serves.1 serves.3).0.1 in
      let none : length input ≡ 0 = ap length e in absurd (omega (arith, there, none))
  conversed [] [] input old (Damage bytes ∷ replies) new rest is_torn values of are all e serves ends answered behind left u count = absurd serves
  conversed [] (p ∷ pieces) input old replies new rest is_torn values of are all e serves ends answered behind left u count = absurd of
  conversed (request ∷ requests) [] input old replies new rest is_torn values of are all e serves ends answered behind left u count = absurd of
  conversed (request ∷ requests) (Damage bytes ∷ pieces) input old replies new rest is_torn values of are all e serves ends answered behind left u count = absurd of
  conversed (request ∷ requests) (FrameOf framed word ∷ pieces) input old [] new rest is_torn values of are all e serves ends answered behind left u count =
      absurd (ends-no-piece W s limit most small eq exact (FrameOf framed word) (bytes_of_all pieces) are.0 (subst AreBytes e all) 0 (ending_of is_torn)
      (subst (λ z. EndsAt most 0 z (ending_of is_torn)) (serves.1 ∙ e) (ends-store most is_torn rest ends)))
  conversed (request ∷ requests) (FrameOf framed word ∷ pieces) input old (Damage bytes ∷ replies) new rest is_torn values of are all e serves ends answered behind left u count = absurd serves
  conversed (request ∷ requests) (FrameOf framed word ∷ pieces) input old (FrameOf reply w ∷ replies) new rest is_torn [] of are all e serves ends answered behind left u count = absurd (omega (arith, count))
  conversed (request ∷ requests) (FrameOf framed word ∷ pieces) input old (FrameOf reply w ∷ replies) new rest is_torn (value ∷ values) of are all e serves ends answered behind left u count =
      let b = begins W s limit most small eq exact framed word pieces [] input are all (e ∙ sym (append-nil (bytes_of_all (FrameOf framed word ∷ pieces)))) serves.0 serves.1 serves.3 in
      let a = begins V s limit most small same kept reply w replies behind answered u.are_replies u.are_bytes u.answered_is u.read.1.0 (contents.Value value) u.read.1.1 in
      let next : u.read.0 ≡ bytes_of_all replies ++ behind = u.read.1.2 ∙ a.left in
      let unread : Unread u.read.0 replies behind left values = record {
        are_replies = u.are_replies.1;
        are_bytes = subst AreBytes (sym next) a.are_bytes;
        answered_is = next;
        read = u.read.2;
      } in
      answered-one request framed of.0 serves.1 b.is_told old serves.2 new reply value requests values serves.4 a.is_told
      (conversed requests pieces (drop serves.0 input) serves.2 replies new rest is_torn values of.1 are.1 (subst AreBytes (sym b.left) b.are_bytes) (b.left ∙ append-nil (bytes_of_all pieces)) serves.5 ends
      u.read.0 behind left unread (omega (arith, count)))

-- what follows of two facts on a value
pub both : {X E : Type 0} (r : Result X E) (P P' P'' : X → Type 0) → ((x : X) → P x → P' x → P'' x) → IfOk r P → IfOk r P' → IfOk r P''
both (Ok x) P P' P'' f p q = f x p q
both (Err e) P P' P'' f p q = tt
