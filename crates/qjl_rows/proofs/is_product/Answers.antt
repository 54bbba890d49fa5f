-- `qjl_rows::is_product` meets its contract: by the quotient and the remainder. Assumes nothing.
use Rattle.qjl_rows.proofs.Rows.{product-empty, product-leaves, product-count}
use Rattle.qjl_rows.proofs.is_product.Goals as goal

pub returns-then-columns-eq0 : goal.returns-then-columns-eq0
returns-then-columns-eq0 c = product-empty _ _ _ c.if-columns-eq0.true

pub returns-then-whole-columns-ne0 : goal.returns-then-whole-columns-ne0
returns-then-whole-columns-ne0 c = product-leaves _ _ _ c.if-whole-columns-ne0.true

pub returns : goal.returns
returns c = product-count _ _ _ c.if-columns-eq0.false c.if-whole-columns-ne0.false
