use Rattle.std.proofs.Common.{◌∷◌, [], refl}
use Rattle.dump_page.specs.Pages.PagePart.{Quoted, Word}
use Rattle.dump_page.proofs.member.Member.text.Goals as goal

pub returns-in-File : goal.returns-in-File
unfolding lib.Utf8.encode
returns-in-File c = ∣ (
  Word 0x7b ∷ Quoted (0x66 ∷ 0x69 ∷ 0x6c ∷ 0x65 ∷ []) ∷ Word 0x3a ∷ [],
  refl,
  refl,
) ∣₁

pub returns-in-Place : goal.returns-in-Place
unfolding lib.Utf8.encode
returns-in-Place c = ∣ (
  Word 0x7b ∷ Quoted (0x6f ∷ 0x66 ∷ 0x66 ∷ 0x73 ∷ 0x65 ∷ 0x74 ∷ []) ∷ Word 0x3a ∷ [],
  refl,
  refl,
) ∣₁

pub returns-in-NextPlace : goal.returns-in-NextPlace
unfolding lib.Utf8.encode
returns-in-NextPlace c = ∣ (
  Word 0x2c ∷ Quoted (0x6f ∷ 0x66 ∷ 0x66 ∷ 0x73 ∷ 0x65 ∷ 0x74 ∷ []) ∷ Word 0x3a ∷ [],
  refl,
  refl,
) ∣₁

pub returns-in-Length : goal.returns-in-Length
unfolding lib.Utf8.encode
returns-in-Length c = ∣ (
  Word 0x2c ∷ Quoted (0x6c ∷ 0x65 ∷ 0x6e ∷ 0x67 ∷ 0x74 ∷ 0x68 ∷ []) ∷ Word 0x3a ∷ [],
  refl,
  refl,
) ∣₁

pub returns-in-Kind : goal.returns-in-Kind
unfolding lib.Utf8.encode
returns-in-Kind c = ∣ (
  Word 0x2c ∷ Quoted (0x6b ∷ 0x69 ∷ 0x6e ∷ 0x64 ∷ []) ∷ Word 0x3a ∷ [],
  refl,
  refl,
) ∣₁

pub returns-in-Finished : goal.returns-in-Finished
unfolding lib.Utf8.encode
returns-in-Finished c = ∣ (
  Word 0x2c ∷ Quoted (0x66 ∷ 0x69 ∷ 0x6e ∷ 0x69 ∷ 0x73 ∷ 0x68 ∷ 0x65 ∷ 0x64 ∷ []) ∷ Word 0x3a ∷ [],
  refl,
  refl,
) ∣₁

pub returns-in-Cut : goal.returns-in-Cut
unfolding lib.Utf8.encode
returns-in-Cut c = ∣ (
  Word 0x2c ∷ Quoted (0x63 ∷ 0x75 ∷ 0x74 ∷ []) ∷ Word 0x3a ∷ [],
  refl,
  refl,
) ∣₁

pub returns-in-WholeName : goal.returns-in-WholeName
unfolding lib.Utf8.encode
returns-in-WholeName c = ∣ (
  Word 0x2c ∷ Quoted (0x66 ∷ 0x69 ∷ 0x6e ∷ 0x69 ∷ 0x73 ∷ 0x68 ∷ 0x65 ∷ 0x64 ∷ []) ∷ Word 0x3a ∷
      Word 0x74 ∷ Word 0x72 ∷ Word 0x75 ∷ Word 0x65 ∷ Word 0x2c ∷
      Quoted (0x63 ∷ 0x75 ∷ 0x74 ∷ []) ∷ Word 0x3a ∷
      Word 0x66 ∷ Word 0x61 ∷ Word 0x6c ∷ Word 0x73 ∷ Word 0x65 ∷ Word 0x2c ∷
      Quoted (0x6e ∷ 0x61 ∷ 0x6d ∷ 0x65 ∷ []) ∷ Word 0x3a ∷ [],
  refl,
  refl,
) ∣₁

pub returns-in-Name : goal.returns-in-Name
unfolding lib.Utf8.encode
returns-in-Name c = ∣ (
  Word 0x2c ∷ Quoted (0x6e ∷ 0x61 ∷ 0x6d ∷ 0x65 ∷ []) ∷ Word 0x3a ∷ [],
  refl,
  refl,
) ∣₁

pub returns-in-Words : goal.returns-in-Words
unfolding lib.Utf8.encode
returns-in-Words c = ∣ (
  Word 0x2c ∷ Quoted (0x77 ∷ 0x6f ∷ 0x72 ∷ 0x64 ∷ 0x73 ∷ []) ∷ Word 0x3a ∷ [],
  refl,
  refl,
) ∣₁

pub returns-in-Fields : goal.returns-in-Fields
unfolding lib.Utf8.encode
returns-in-Fields c = ∣ (
  Word 0x2c ∷ Quoted (0x66 ∷ 0x69 ∷ 0x65 ∷ 0x6c ∷ 0x64 ∷ 0x73 ∷ []) ∷ Word 0x3a ∷ Word 0x5b ∷ [],
  refl,
  refl,
) ∣₁

pub returns-in-Bytes : goal.returns-in-Bytes
unfolding lib.Utf8.encode
returns-in-Bytes c = ∣ (
  Word 0x2c ∷ Quoted (0x62 ∷ 0x79 ∷ 0x74 ∷ 0x65 ∷ 0x73 ∷ []) ∷ Word 0x3a ∷ [],
  refl,
  refl,
) ∣₁

pub returns-in-Base64 : goal.returns-in-Base64
unfolding lib.Utf8.encode
returns-in-Base64 c = ∣ (
  Word 0x2c ∷ Quoted (0x62 ∷ 0x61 ∷ 0x73 ∷ 0x65 ∷ 0x36 ∷ 0x34 ∷ []) ∷ Word 0x3a ∷ [],
  refl,
  refl,
) ∣₁
