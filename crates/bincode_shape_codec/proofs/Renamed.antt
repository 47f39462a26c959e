-- Decoding with the meaning mapped.
use Rattle.std.specs.Prelude.{ℕ, List, Option, Ok, Err}
use Rattle.std.specs.Borrow.{GName}
use Rattle.bincode_base.specs.declared.error.DecodeError.{DecodeError}
use Rattle.bincode_spec.specs.Device.{DeviceErrors}
use Rattle.bincode_spec.specs.Format.{Format, map_format}
use Rattle.bincode_spec.specs.Layers.Values.{Reads}
use Rattle.bincode_lemmas.specs.DecodingLaws.{map-gave, map-stops}
use Rattle.bincode_decoder.proofs.ReadAnswers.{read-as}

-- decoding a mapped format gives the mapped meaning
pub map-reads :
    {D A B T U : Type 0} {is_known : D → Type 0} {remaining : D → List ℕ} {charge failures : D → ℕ} {loans : D → List GName} {limit : Option ℕ}
    {end_error : ℕ → DecodeError → Type 0} {device : DeviceErrors} {H : Type 0} {F : Format A} {decodes_to : A → T → Type 0} {whole : B → U → Type 0} {start : ℕ}
    {v : T} {w : U} {old new : D} (f : A → B) →
    ((m : A) → decodes_to m v → whole (f m) w) →
    Reads is_known remaining charge failures loans limit end_error device H F decodes_to start (Ok v) old new → Reads is_known remaining charge failures loans limit end_error device H (map_format f F) whole start (Ok w) old new
map-reads {limit = limit} {F = F} f g read =
    read-as
    (λ known. let h = read.ok known in record { meaning = f h.meaning; answer_is = map-gave f limit F _ _ h.meaning _ _ h.answer_is; is_decoded = g h.meaning h.is_decoded })
    (λ known. tt)
    read.within
    read

pub map-reads_none :
    {D A B T U : Type 0} {is_known : D → Type 0} {remaining : D → List ℕ} {charge failures : D → ℕ} {loans : D → List GName} {limit : Option ℕ}
    {end_error : ℕ → DecodeError → Type 0} {device : DeviceErrors} {H : Type 0} {F : Format A} {decodes_to : A → T → Type 0} {whole : B → U → Type 0} {start : ℕ}
    {e : DecodeError} {old new : D} (f : A → B) →
    Reads is_known remaining charge failures loans limit end_error device H F decodes_to start (Err e) old new → Reads is_known remaining charge failures loans limit end_error device H (map_format f F) whole start (Err e) old new
map-reads_none {limit = limit} {end_error = end_error} {device = device} {H = H} {F = F} {e = e} f read =
    read-as (λ known. tt) (λ known. map-stops f end_error device H limit F _ _ _ _ _ e (read.err known)) (λ _. tt) read
