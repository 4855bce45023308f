-- A file that was read has only numbers of 64 bits, bytes, and a name that is a text.
use Rattle.std.proofs.Common.{ℕ, ◌≡◌, nat_eq, List, [], ◌∷◌, drop, codes, Option, Some, None, subst}
use Rattle.std.specs.List.{starts_with}
use Rattle.base64.specs.GeneralPurpose.{IsBytes}
use Rattle.esc_values.specs.Base64.{base64_of}
use Rattle.esc_values.specs.Cuts.{Pairs}
use Rattle.esc_values.specs.Fields.{Values, values_of}
use Rattle.esc_values.proofs.Codecs.FieldsReadBack.{read_fits}
use Rattle.esc_values.proofs.Numbers.FactsIfSome.{Where, where_from, where_if, where_then, Anything, anything}
use Rattle.esc_iterm.specs.Files.{pairs_of, file_fields, filled_file, file_in, file_with, file_from, file_of, IsWritableFile}
use Rattle.esc_iterm.specs.declared.file_data.ITermFileData.{ITermFileData}
use Rattle.esc_iterm.proofs.DecodedBytes.{decoded_are_bytes}
use Rattle.esc_iterm.proofs.FilesBack.{file_laws}

file_with_where : (A : Type 0) (v : Values) (t : List ℕ)
    → Where (λ f. IsWritableFile f) (file_with {A = A} v t)
file_with_where A v t =
    where_then (λ m. IsBytes m) (λ f. IsWritableFile f) (file_in {A = A} v)
    (λ m h. read_fits file_laws (file_fields {A = A}) (filled_file {A = A} m) v (λ f.
    IsWritableFile f) (λ xs k. (k, h))) (base64_of t)
    (where_from (λ m. IsBytes m) (base64_of t) (λ m e. decoded_are_bytes t m e))

file_from_where : (A : Type 0) (ps : List (List ℕ))
    → Where (λ f. IsWritableFile f) (file_from {A = A} ps)
file_from_where A ps =
    where_then (λ (m : Pairs × List ℕ). Anything m) (λ f. IsWritableFile f) (λ (m : Pairs
    × List ℕ). file_with {A = A} (values_of m.0) m.1)
    (λ m h. file_with_where A (values_of m.0) m.1) (pairs_of ps) (anything (pairs_of ps))

file_where : (A : Type 0) (args : List (List ℕ))
    → Where (λ f. IsWritableFile f) (file_of {A = A} args)
file_where A [] = tt
file_where A (p ∷ ps) =
    where_if (λ f. IsWritableFile f) (starts_with nat_eq p (codes "File="))
    (file_from {A = A} (drop 5 p ∷ ps)) None (file_from_where A (drop 5 p ∷ ps)) tt

pub file_is_writable : {A : Type 0} (args : List (List ℕ)) (f : ITermFileData A)
    → file_of args ≡ Some f → IsWritableFile f
file_is_writable {A = A} args f e = let P : Option (ITermFileData A) → Type 0 =
    λ o. Where (λ g. IsWritableFile g) o in subst P e (file_where A args)
