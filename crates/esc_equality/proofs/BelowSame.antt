-- Equal parameters, parameters and links are the same.
use Rattle.std.specs.Cmp.Lexicographic.{pointwise}
use Rattle.std.proofs.Common.{rules}
use Rattle.std.specs.declared.alloc.Allocator.{Ghosts}
use denote.RattleType.{RattleType}
use mir.Syntax.{Dict}
use Rattle.esc_links.specs.contracts.hyperlink.HyperlinkPartialEq.TheImpl as hyperlink
use Rattle.esc_values.specs.contracts.csi_param.CsiParamPartialEq.TheImpl as entry
use Rattle.esc_equality.proofs.Same.{IsSame, lists, text_pair, text_pairs, texts}

csi_params : IsSame entry.ghosts.eq
csi_params x y = search rules

pub param_lists : IsSame (pointwise entry.ghosts.eq)
param_lists = lists entry.ghosts.eq csi_params

pub params : IsSame (pointwise text_pair)
params = lists text_pair text_pairs

pub hyperlinks : (T : RattleType) (G : Ghosts T.Denot) (x y : Dict)
    → IsSame (hyperlink.ghosts T G x y).eq
hyperlinks T G x y a b = search (params, texts, rules)
