use Rattle.proved_callers.proofs.Fits.{exact-fit}
use Rattle.proved_callers.proofs.rooms.fits_exactly.Goals as goal

pub returns : goal.returns
returns g c =
    let exact = exact-fit _ _ _ _ _ (c.tell_plain.ensures.one_length _ _ c.tell_valid.ensures) c.tell_plain.ensures.names_none
    (c.tell_plain.ensures.always_writable _ _ c.tell_valid.ensures) _ c.encode_into_writer.ensures.room in
    record { within = λ word a. (exact word a).0; fits = λ word a. (exact word a).1 }
