use Rattle.std.proofs.Common.{◌<◌, ◌^◌, arith}
use Rattle.std.proofs.lemmas.List.Elements.{All-from_get_or}
use Rattle.std.proofs.lemmas.Result.{IfOk-weaker}
use Rattle.framed_store.proofs.Listings.{lists-first, lists-all, lists-before-torn, lists-front, torn-front}
use Rattle.framed_store.proofs.listing.list.Goals as goal

pub returns : goal.returns
returns g c =
    let read = c.list_frames.ensures in
    let W = g.T.Wire.words in
    let s = g.C.Config.setting in
    let limit = g.C.Config.bound in
    let most = c.args.most in
    let small : most < 2 ^ 32 = let fits = c.ranges.most.fits in omega (arith, fits) in
    let store = c.args.store.now in
    let bytes = All-from_get_or (λ b. b < 256) store 0 (λ i within. let fits = c.type_inv.store i in omega (arith, fits)) in
    let exact = c.tell_exact.ensures in record {
      frames = read;
      first = λ pieces behind are e. IfOk-weaker c.list_frames.result _ _ (λ l h. lists-first W s limit most small _ exact store bytes _ _ h pieces are behind e) read;
      all = λ pieces are e. IfOk-weaker c.list_frames.result _ _ (λ l h. lists-all W s limit most small _ exact store bytes _ _ h pieces are e) read;
      torn = λ pieces front are t e. IfOk-weaker c.list_frames.result _ _
          (λ l h. lists-before-torn W s limit most small _ exact store bytes _ _ h pieces are front (torn-front W s limit most small _ exact front t) e) read;
      cut = λ pieces lost are e. IfOk-weaker c.list_frames.result _ _ (λ l h. lists-front W s limit most small _ exact store bytes _ _ h pieces lost are e) read;
    }
